-- What looks find when a live run is closed: what was declared, where the client has asked for nothing before, and else what its site shows at the end of its history.
use Rattle.std.proofs.Common.{◌≡◌, ◌||◌, ℕ, zero, suc, ◌+◌, ◌<◌, ◌≤◌, Bool, true, false, Option, Some, None, List, [], ◌∷◌, All, length, get_or, map, set, slice_get, take, refl, sym, ap, ◌∙◌, subst, arith, eq-eqb, length-set, get_or-set_same, get_or-set_other}
use Rattle.std.proofs.lemmas.List.{take_all}
use Rattle.std.proofs.lemmas.Option.{slice_get-map}
use Rattle.std.specs.Option.{option_map}
use Rattle.std.proofs.lemmas.Bool.{false≢true}
use Rattle.std.specs.Prelude.{ℤ, IsTrue}
use mathlib.Core.Logic.{dite}
use native.Mathlib.Decide.{ℕ_discrete}
use Rattle.pv_base.specs.Canonical.{canonical_cases}
use Rattle.pv_base.specs.Catalog.{Declared, Item}
use Rattle.pv_disk_model.specs.LogModel.{LogModel}
use Rattle.pv_format.specs.Record.{epoch_begun}
use Rattle.pv_cell.specs.Box.{course_site}
use Rattle.pv_cell.specs.declared.site_box.SiteBox.{SiteBox}
use Rattle.pv_law_histories.specs.Course.{course}
use Rattle.pv_law_histories.specs.History.{Stamped}
use Rattle.pv_law_histories.specs.Peeks.{reading_after, reading_in}
use Rattle.pv_model.specs.LineCauses.{home_of}
use Rattle.pv_protocol.specs.Lock.{is_home, is_of_site}
use Rattle.pv_protocol.specs.Report.{Reading, cases, locked, down, reading_at, shown_unless_held}
use Rattle.pv_protocol.specs.Shown.{declared_or_zero, declared_value, shown, shown_within}
use Rattle.pv_protocol.specs.State as state
use Rattle.pv_protocol.specs.State.{Running}
use Rattle.pv_protocol.specs.World.{first_site}
use Rattle.pv_rings.proofs.EachLemmas.{get_or-any}
use Rattle.pv_script.specs.declared.line.Line as script
use Rattle.pv_script.specs.declared.live.Request.{Request}
use Rattle.pv_script.specs.declared.live.Wish.{Wish}
use Rattle.pv_script.specs.declared.live.Wish.TheVariants as wish
use Rattle.pv_script.specs.declared.live.Wish.TheVariants.{Do}
use Rattle.pv_shelf.specs.Opening.{sure}
use Rattle.pv_shelf.specs.declared.peek.Peek.{Peek}
use Rattle.pv_site.specs.Asked.{Shows}
use Rattle.pv_site.specs.SiteState.{SiteState, setup_of}
use Rattle.pv_site.specs.declared.input.Shown.{Shown}
use Rattle.pv_site.specs.declared.input.Shown.TheVariants as seen
use Rattle.pv_told.specs.Along.{line_among, told_along}
use Rattle.pv_told.specs.Lines.{AreLinesOf, IsSaid}
use Rattle.pv_told.specs.declared.line.ClientLine.{ClientLine}
use Rattle.pv_told.specs.declared.line.ClientWhat.{ClientWhat}
use Rattle.pv_told.specs.declared.line.ClientWhat.TheVariants as what
use Rattle.pv_closing.specs.Boxes.{IsClosedBox, Stands, history_in}
use Rattle.pv_closing.specs.Clients.{AreInOrder}
use Rattle.pv_closing.specs.Lines.{HaveLooked, IsLineFor, IsNoLook, IsPeeked, has_request, looked_after, reading_of}

-- what is shown, as a reading
abbrev reading_shown : ℕ → Shown → Reading
reading_shown me seen.Down = down me
reading_shown me (seen.Locked holder) = locked holder
reading_shown me (seen.Cases value) = cases value.now

module _ {W : Type 0} (site : SiteState W) (item : ℕ) where
  reading-by : (running : Option Running) (is : Shown) → Shows site running item is → reading_shown site.me is ≡ reading_at site.me running item (shown site.catalog site.records item)
  reading-by None seen.Down shows = refl
  reading-by (Some running) seen.Down shows = absurd (let wrong : ⊥ = cc in wrong)
  reading-by None (seen.Locked holder) shows = absurd shows
  reading-by (Some running) (seen.Locked holder) shows = ap (λ held. shown_unless_held held (shown site.catalog site.records item)) (sym shows)
  reading-by None (seen.Cases value) shows = absurd shows
  reading-by (Some running) (seen.Cases value) shows = ap cases shows.1 ∙ ap (λ held. shown_unless_held held (shown site.catalog site.records item)) (sym shows.0)

  -- What the site shows is how it reads its item.
  pub shown-reading : (is : Shown) → Shows site site.running item is → reading_shown site.me is ≡ reading_in (setup_of site.catalog) site.me (course_site site) item
  shown-reading is shows = reading-by site.running is shows

whole : (history : List Stamped) → take (length history) history ≡ history
whole history = take_all (length history) history (omega arith)

-- What a site shows of an item before anything was written.
shown-first : (catalog : Declared) (item : ℕ) → shown catalog (epoch_begun 1 ∷ []) item ≡ record { when = []; value = declared_value catalog item } ∷ []
unfolding canonical_cases shown_within
shown-first catalog item = refl

declared-is : (found : Option Item) (value : ℤ) → option_map (λ (declared : Item). declared.value) found ≡ Some value → declared_or_zero found ≡ value
declared-is None value is = absurd cc
declared-is (Some declared) value is = cc

module _ {W : Type 0} (box : SiteBox W) where
  -- At the end of its history the site reads its item as it stands.
  pub reading-at_end : Stands box → (item : ℕ)
      → reading_in (setup_of box.site.catalog) box.site.me (course_site box.site) item
      ≡ reading_after (setup_of box.site.catalog) box.site.me (history_in box) (length (history_in box)) item
  reading-at_end stands item =
      let setup = setup_of box.site.catalog in
      let me = box.site.me in
      ap (λ (site : state.Site). reading_in setup me site item) (stands ∙ ap (λ (h : List Stamped). course setup me first_site h) (sym (whole (history_in box))))

  -- Before it took anything in, the site read its item as it is declared.
  pub reading-at_first : (item : ℕ) (value : ℤ) → slice_get (map (λ (declared : Item). declared.value) box.site.catalog.items) item ≡ Some value
      → reading_of box.site.me (sure value) ≡ reading_after (setup_of box.site.catalog) box.site.me (history_in box) 0 item
  reading-at_first item value is =
      ap (λ (v : ℤ). cases (record { when = []; value = v } ∷ [])) (sym (declared-is (slice_get box.site.catalog.items item) value
      (sym (slice_get-map (λ (declared : Item). declared.value) box.site.catalog.items item) ∙ is)))
      ∙ ap cases (sym (shown-first box.site.catalog item))

-- ## In order
has-more : (wishes : List Wish) (j k : ℕ) → j ≤ k → has_request (take j wishes) ≡ true → has_request (take k wishes) ≡ true
has-more wishes zero k less is = absurd (false≢true is)
has-more wishes (suc j) zero less is = absurd (omega (arith, less))
has-more [] (suc j) (suc k) less is = absurd (false≢true is)
has-more (Do request ∷ wishes) (suc j) (suc k) less is = refl
has-more (wish.Peek number item ∷ wishes) (suc j) (suc k) less is = has-more wishes j k (omega (arith, less)) is

asked-at : (wishes : List Wish) (j k : ℕ) (any : Wish) (request : Request) → j < k → j < length wishes → get_or wishes j any ≡ Do request → has_request (take k wishes) ≡ true
asked-at [] j k any request less within is = absurd (omega (arith, within))
asked-at (first ∷ wishes) j zero any request less within is = absurd (omega (arith, less))
asked-at (Do other ∷ wishes) j (suc k) any request less within is = refl
asked-at (wish.Peek number item ∷ wishes) zero (suc k) any request less within is = absurd cc
asked-at (wish.Peek number item ∷ wishes) (suc j) (suc k) any request less within is =
    asked-at wishes j k any request (omega (arith, less)) (omega (arith, within)) is

-- Whether any was a request, with one more.
pub asked-next : (wishes : List Wish) (at : ℕ) (one : Wish) → one ≡ get_or wishes at one → at < length wishes
    → has_request (take (suc at) wishes) ≡ has_request (take at wishes) || has_request (one ∷ [])
asked-next [] at one is within = absurd (omega (arith, within))
asked-next (Do request ∷ wishes) zero one is within = sym (ap (λ (w : Wish). has_request (w ∷ [])) is)
asked-next (wish.Peek number item ∷ wishes) zero one is within = sym (ap (λ (w : Wish). has_request (w ∷ [])) is)
asked-next (Do request ∷ wishes) (suc at) one is within = refl
asked-next (wish.Peek number item ∷ wishes) (suc at) one is within = asked-next wishes at one is (omega (arith, within))

module _ {W : Type 0} (box : SiteBox W) (place : ℕ) (wishes : List Wish) (said lines : List ClientLine) (looked : HaveLooked box wishes said (length wishes) lines)
    (long : length said ≡ length wishes) where
  -- What is said of a request isn't said of a look.
  line-of_request : (one : Wish) (before told : ClientLine) (line : script.Line) → told.what ≡ what.Line line → IsLineFor box one before told
      → (request : Request) × (one ≡ Do request)
  line-of_request (Do request) before told line is found = (request, refl)
  line-of_request (wish.Peek number item) before told line is found = absurd (subst (λ (w : ClientWhat). IsPeeked box item.0 w) is found.1)

  -- Looks come in order, and after the lines before them.
  pub looks-in-order : AreInOrder box place lines
  looks-in-order = record {
    rising = λ j k any one other less within is also.
        let inside : k < length wishes = omega (arith, within, looked.count, long) in
        let first = looked.steps j any one (omega (arith, less, inside)) is in
        let later = looked.steps k any other inside also in
        by-asked (has_request (take j wishes)) one.steps other.steps first
        (λ asked. later ∙ ap (looked_after box) (has-more wishes j k (omega (arith, less)) asked));
    behind = λ j k any one peek less within is also line stands.
        let inside : k < length wishes = omega (arith, within, looked.count, long) in
        let any_wish : Wish = wish.Peek 0 (record { 0 = 0 }) in
        let request = line-of_request (get_or wishes j any_wish) (get_or said j any) (get_or lines j any) one is (looked.told j any_wish any (omega (arith, less, inside))) in
        let all_asked = asked-at wishes j k any_wish request.0 less (omega (arith, less, inside)) request.1 in
        let steps : peek.steps ≡ length (history_in box) = looked.steps k any peek inside also ∙ ap (looked_after box) all_asked in
        let all : take peek.steps (history_in box) ≡ history_in box = ap (λ (n : ℕ). take n (history_in box)) steps ∙ whole (history_in box) in
        subst (λ (h : List Stamped). line_among (record { client = place; number = j }) (told_along box.site.me [] h) ≡ Some line) (sym all) stands;
  }
    where
      by-asked : (asked : Bool) (one other : ℕ) → one ≡ looked_after box asked → (asked ≡ true → other ≡ length (history_in box)) → one ≤ other
      by-asked true one other is later = let both = later refl in omega (arith, is, both)
      by-asked false one other is later = omega (arith, is)

-- ## Items of the site
of-site : (found : Option Item) (site : ℕ) → option_map (λ (declared : Item). declared.site) found ≡ Some site → is_of_site site found ≡ true
of-site None site is = absurd cc
of-site (Some declared) site is = let same : declared.site ≡ site = cc in eq-eqb declared.site site same

-- An item of the site is at home there.
pub home-here : (catalog : Declared) (site item : ℕ) → home_of catalog.items item ≡ Some site → IsTrue (is_home catalog site item)
home-here catalog site item is =
    of-site (slice_get catalog.items item) site (sym (slice_get-map (λ (declared : Item). declared.site) catalog.items item) ∙ is)

-- ## One look after another
-- What a history says is no look.
pub no-looks : (me : ℕ) (worn : Bool) (history : List Stamped) (client requests : ℕ) (lines : List ClientLine) → AreLinesOf me worn history client requests lines
    → All IsNoLook lines
no-looks me worn history client requests lines are k any less peek is =
    subst (λ (w : ClientWhat). IsSaid me worn history (record { client = client; number = k }) w) is (are.1 k any (omega (arith, less, are.0))).1

module _ {W : Type 0} (box : SiteBox W) (wishes : List Wish) (said : List ClientLine) where
  pub looked-none : HaveLooked box wishes said 0 said
  looked-none = record {
    count = refl;
    told = λ k wish line less. absurd (omega (arith, less));
    steps = λ k line peek less is. absurd (omega (arith, less));
    left = λ k line past. refl;
  }

  module _ (long : length said ≡ length wishes) (at : ℕ) (lines : List ClientLine) (before : HaveLooked box wishes said at lines) (within : at < length wishes)
      (one : Wish) (old new : ClientLine) (one_is : one ≡ get_or wishes at one) (old_is : old ≡ get_or lines at old) where
    inside : at < length lines
    inside = omega (arith, within, long, before.count)

    said-is : (line : ClientLine) → old ≡ get_or said at line
    said-is line = old_is ∙ get_or-any lines at line old inside ∙ before.left at line (omega arith)

    -- The line of one thing more stands there.
    pub looked-more : IsLineFor box one old new → ((peek : Peek) → new.what ≡ what.Peek peek → peek.steps ≡ looked_after box (has_request (take at wishes)))
        → HaveLooked box wishes said (at + 1) (set lines at new)
    looked-more found steps = record {
      count = length-set lines at new ∙ before.count;
      told = λ k any line less. dite (ℕ_discrete k at)
          (λ is. subst (λ (j : ℕ). IsLineFor box (get_or wishes j any) (get_or said j line) (get_or (set lines at new) j line)) (sym is)
          (subst (λ (one : ClientLine). IsLineFor box (get_or wishes at any) (get_or said at line) one) (sym (get_or-set_same lines at new line inside))
          (subst (λ (its : ClientLine). IsLineFor box (get_or wishes at any) its new) (said-is line)
          (subst (λ (w : Wish). IsLineFor box w old new) (one_is ∙ get_or-any wishes at any one within) found))))
          (λ isnt. subst (λ (one : ClientLine). IsLineFor box (get_or wishes k any) (get_or said k line) one) (sym (get_or-set_other lines at k new line isnt))
          (before.told k any line (omega (arith, less, isnt))));
      steps = λ k line peek less is. dite (ℕ_discrete k at)
          (λ same. subst (λ (j : ℕ). peek.steps ≡ looked_after box (has_request (take j wishes))) (sym same)
          (steps peek (ap (λ (one : ClientLine). one.what) (sym (get_or-set_same lines at new line inside))
          ∙ (ap (λ (j : ℕ). (get_or (set lines at new) j line).what) (sym same) ∙ is))))
          (λ isnt. before.steps k line peek (omega (arith, less, isnt)) (ap (λ (one : ClientLine). one.what) (sym (get_or-set_other lines at k new line isnt)) ∙ is));
      left = λ k line past.
          get_or-set_other lines at k new line (λ same. absurd (omega (arith, past, same))) ∙ before.left k line (omega (arith, past));
    }

-- A box that is closed stands where its history leaves it.
pub closed-stands : {W : Type 0} (M : LogModel W) (catalog : Declared) (n : ℕ) (box : SiteBox W) → IsClosedBox M catalog n box → Stands box
closed-stands M catalog n box closed =
    closed.stands ∙ (λ i. course (setup_of (sym closed.catalog_is i)) (sym closed.number i) first_site (history_in box))
