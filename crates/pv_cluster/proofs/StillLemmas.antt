-- Boxes whose rings were looked at are the boxes that they were.
use Rattle.std.proofs.Common.{◌≡◌, ℕ, ◌<◌, List, ◌++◌, All, length, get_or, set, take, drop, refl, sym, ap, ◌∙◌, subst, arith, Vec, Global}
use Rattle.std.proofs.lemmas.List.{get_or-drop, get_or-set_other, get_or-take, length-set, length-take-le, set-append_left, set-append_right, take-append-drop}
use Rattle.std.specs.Vec.{with_item}
use mathlib.Core.List.{IsPrefix}
use Rattle.pv_cell.specs.Box.{IsBox}
use Rattle.pv_cell.specs.Course.{Became, HasCourse}
use Rattle.pv_cell.specs.Lending.{AreStill, PostsNothing, with_ends}
use Rattle.pv_cell.specs.Together.{Brought}
use Rattle.pv_cell.specs.declared.site_box.SiteBox.{SiteBox}
use Rattle.pv_closing.specs.Closing.{GoOn, GoesOn, IsWhole}
use Rattle.pv_closing.specs.Ended.{AskOn}
use Rattle.pv_closing.specs.Standing.{StandTogether}
use Rattle.pv_closing.specs.declared.ended.Ended.{Ended}
use Rattle.pv_disk_model.specs.LogModel.{LogModel}
use Rattle.pv_mail.specs.declared.ends.Ends.{Ends}
use Rattle.pv_mail.specs.declared.ends.Parcel.{Parcel}
use Rattle.pv_post.specs.Ends.{IsPair, SameIn, SameOut, posted, taken}
use Rattle.pv_post.specs.declared.inlet.In.{In}
use Rattle.pv_post.specs.declared.outlet.Out.{Out}
use Rattle.pv_rings.proofs.EachLemmas.{each-self, each-set, each-trans, each-weaker, get_or-any}
use Rattle.pv_rings.proofs.RingLemmas.{rests-self, rests-trans}
use Rattle.pv_rings.specs.Rings.{Each, Rests}
use Rattle.pv_script.specs.declared.live.LiveScript.{LiveScript}
use Rattle.pv_script.specs.declared.live.Request.{Request}
use Rattle.pv_cluster.proofs.LookedLemmas.{all-unlooked, looked-ask, out-further, out-self}
use Rattle.pv_cluster.specs.Looks.{AllStill, AreLinked, IsStill}
use Rattle.pv_cluster.specs.Serving.{AllBecame}

-- ## Rings
-- What stands at a place, where the list is that one.
pub ring-at : {A : Type 0} (rings mid : List A) (k : ℕ) (x : A) → x ≡ get_or mid k x → mid ≡ rings → k < length rings → (any : A) → x ≡ get_or rings k any
ring-at {A} rings mid k x is same within any = is ∙ ap (λ (l : List A). get_or l k x) same ∙ get_or-any rings k any x within

module _ {M : Type 0} where
  -- The ends of one ring stay so.
  pub pair-on : (out out' : Out M) (inlet inlet' : In M) → IsPair out inlet → SameOut out out' → SameIn inlet inlet' → IsPair out' inlet'
  pair-on out out' inlet inlet' pair outs ins = (
    ins.0.0 ∙ (pair.0 ∙ sym outs.0.0.0),
    ins.0.1 ∙ (pair.1 ∙ sym outs.0.0.1),
    ins.0.2 ∙ (pair.2 ∙ sym outs.0.0.2),
    ins.0.3 ∙ (pair.3 ∙ sym outs.0.0.3),
  )

  abbrev pub InsStill : List (In M) → List (In M) → Type 0
  InsStill old new = Each (λ (k : ℕ) (one other : In M). Rests one other) old new

  abbrev pub OutsStill : List (Out M) → List (Out M) → Type 0
  OutsStill old new = Each (λ (k : ℕ) (one other : Out M). PostsNothing one other) old new

  posts-self : (out : Out M) → PostsNothing out out
  posts-self out = (out-self out, refl, refl)

  posts-trans : (a b c : Out M) → PostsNothing a b → PostsNothing b c → PostsNothing a c
  posts-trans a b c one other = (out-further a b c one.0 other.0, other.1 ∙ one.1, other.2 ∙ one.2)

  pub ins-self : (rings : List (In M)) → InsStill rings rings
  ins-self rings = each-self (λ (k : ℕ) (one other : In M). Rests one other) rings (λ k ring less. rests-self ring)

  pub outs-self : (rings : List (Out M)) → OutsStill rings rings
  outs-self rings = each-self (λ (k : ℕ) (one other : Out M). PostsNothing one other) rings (λ k ring less. posts-self ring)

  -- One of the rings is looked at.
  pub in-still : (rings : List (In M)) (at : ℕ) (ring : In M) → at < length rings → ((any : In M) → Rests (get_or rings at any) ring)
      → InsStill rings (set rings at ring)
  in-still rings at ring within is =
      each-set (λ (k : ℕ) (one other : In M). Rests one other) (λ (k : ℕ) (one other : In M). Rests one other) rings rings at ring (ins-self rings) within
      (λ d e before. is d) (λ k x z isnt before. before)

  pub out-still : (rings : List (Out M)) (at : ℕ) (ring : Out M) → at < length rings → ((any : Out M) → PostsNothing (get_or rings at any) ring)
      → OutsStill rings (set rings at ring)
  out-still rings at ring within is =
      each-set (λ (k : ℕ) (one other : Out M). PostsNothing one other) (λ (k : ℕ) (one other : Out M). PostsNothing one other) rings rings at ring (outs-self rings) within
      (λ d e before. is d) (λ k x z isnt before. before)

  ins-trans : (a b c : List (In M)) → InsStill a b → InsStill b c → InsStill a c
  ins-trans a b c one other =
      each-trans (λ (k : ℕ) (x y : In M). Rests x y) (λ (k : ℕ) (x y : In M). Rests x y) (λ (k : ℕ) (x y : In M). Rests x y) a b c
      (λ k x y z less. rests-trans x y z) one other

  outs-trans : (a b c : List (Out M)) → OutsStill a b → OutsStill b c → OutsStill a c
  outs-trans a b c one other =
      each-trans (λ (k : ℕ) (x y : Out M). PostsNothing x y) (λ (k : ℕ) (x y : Out M). PostsNothing x y) (λ (k : ℕ) (x y : Out M). PostsNothing x y) a b c
      (λ k x y z less. posts-trans x y z) one other

-- ## Ends
-- the ends with this ring in and this ring out at this place
abbrev pub ends_with : Ends → ℕ → In Parcel → Out Parcel → Ends
ends_with ends at inlet out = record ends { sites_in = with_item ends.sites_in at inlet; sites_out = with_item ends.sites_out at out }

-- the ends with this ring of a client at this place
abbrev pub asked_with : Ends → ℕ → In Request → Ends
asked_with ends at inlet = record ends { clients_in = with_item ends.clients_in at inlet }

-- One ring in and one ring out are looked at.
pub both-still : (old new : Ends) (at to : ℕ) (inlet : In Parcel) (out : Out Parcel) → new.sites_in.items ≡ set old.sites_in.items at inlet
    → new.sites_out.items ≡ set old.sites_out.items to out → new.clients_in ≡ old.clients_in → new.clients_out ≡ old.clients_out
    → at < length old.sites_in.items → to < length old.sites_out.items → ((any : In Parcel) → Rests (get_or old.sites_in.items at any) inlet)
    → ((any : Out Parcel) → PostsNothing (get_or old.sites_out.items to any) out) → AreStill old new
both-still old new at to inlet out ins outs asks tells in_there out_there rests nothing = (
  subst (λ (all : List (In Parcel)). InsStill old.sites_in.items all) (sym ins) (in-still old.sites_in.items at inlet in_there rests),
  subst (λ (all : List (Out Parcel)). OutsStill old.sites_out.items all) (sym outs) (out-still old.sites_out.items to out out_there nothing),
  subst (λ (all : Vec (In Request) Global). InsStill old.clients_in.items all.items) (sym asks) (ins-self old.clients_in.items),
  tells,
)

-- A client's ring is looked at.
pub client-still : (old new : Ends) (at : ℕ) (inlet : In Request) → new.clients_in.items ≡ set old.clients_in.items at inlet → new.sites_in ≡ old.sites_in
    → new.sites_out ≡ old.sites_out → new.clients_out ≡ old.clients_out → at < length old.clients_in.items
    → ((any : In Request) → Rests (get_or old.clients_in.items at any) inlet) → AreStill old new
client-still old new at inlet asks ins outs tells there rests = (
  subst (λ (all : Vec (In Parcel) Global). InsStill old.sites_in.items all.items) (sym ins) (ins-self old.sites_in.items),
  subst (λ (all : Vec (Out Parcel) Global). OutsStill old.sites_out.items all.items) (sym outs) (outs-self old.sites_out.items),
  subst (λ (all : List (In Request)). InsStill old.clients_in.items all) (sym asks) (in-still old.clients_in.items at inlet there rests),
  tells,
)

-- ## Boxes
-- A box with such ends.
pub lent-still : {W : Type 0} (old new : SiteBox W) (ends : Ends) → new ≡ with_ends old ends → AreStill old.ends ends → IsStill old new
lent-still {W} old new ends is still = subst (λ (box : SiteBox W). IsStill old box) (sym is) (refl, still)

module _ {W : Type 0} where
  -- By the laws of lent ends.
  module _ (M : LogModel W) (lent_box : (box : SiteBox W) (ends : Ends) → AreStill box.ends ends → IsBox M box → IsBox M (with_ends box ends))
      (lent_course : (box : SiteBox W) (ends : Ends) → AreStill box.ends ends → HasCourse box → HasCourse (with_ends box ends))
      (lent_same : (box : SiteBox W) (ends : Ends) → AreStill box.ends ends → Became M box (with_ends box ends)) where
    still-goes : (old new : SiteBox W) → IsWhole M old → IsStill old new → GoesOn M old new
    still-goes old new whole still =
        subst (λ (box : SiteBox W). GoesOn M old box) (sym still.0)
        ((lent_box old new.ends still.1 whole.0, lent_course old new.ends still.1 whole.1), lent_same old new.ends still.1, λ worn. worn)

    pub all-go : (old new : List (SiteBox W)) → All (IsWhole M) old → AllStill old new → GoOn M old new
    all-go old new whole all =
        (all.0, λ k one other less. still-goes (get_or old k one) (get_or new k other) (whole k one less) (all.1 k one other less))

  module _ (M : LogModel W) (both : (old mid new : SiteBox W) → Became M old mid → Became M mid new → Became M old new) where
    pub became-further : (old mid new : List (SiteBox W)) → AllBecame M old mid → AllBecame M mid new → AllBecame M old new
    became-further old mid new one other =
        each-trans (λ (k : ℕ) (x y : SiteBox W). Became M x y) (λ (k : ℕ) (x y : SiteBox W). Became M x y) (λ (k : ℕ) (x y : SiteBox W). Became M x y) old mid new
        (λ k x y z less. both x y z) one other

    -- Boxes that go on are the boxes that they were.
    pub became-on : (old mid new : List (SiteBox W)) → AllBecame M old mid → GoOn M mid new → AllBecame M old new
    became-on old mid new one on =
        became-further old mid new one
        (each-weaker (λ (k : ℕ) (x y : SiteBox W). GoesOn M x y) (λ (k : ℕ) (x y : SiteBox W). Became M x y) mid new (λ k x y less goes. goes.1) on)

  -- So are boxes whose rings were looked at.
  pub still-became : (M : LogModel W) → ((box : SiteBox W) (ends : Ends) → AreStill box.ends ends → Became M box (with_ends box ends))
      → (old new : List (SiteBox W)) → AllStill old new → AllBecame M old new
  still-became M lent_same old new still =
      each-weaker (λ (k : ℕ) (x y : SiteBox W). IsStill x y) (λ (k : ℕ) (x y : SiteBox W). Became M x y) old new
      (λ k x y less is. subst (λ (box : SiteBox W). Became M x box) (sym is.0) (lent_same x y.ends is.1)) still

  -- At first they are what they are.
  pub became-self : (M : LogModel W) → ((box : SiteBox W) → Became M box box) → (boxes : List (SiteBox W)) → AllBecame M boxes boxes
  became-self M none boxes = each-self (λ (k : ℕ) (x y : SiteBox W). Became M x y) boxes (λ k box less. none box)

  -- Boxes that stand together are whole.
  pub all-whole : (M : LogModel W) (script : LiveScript) (boxes : List (SiteBox W)) (clients : List Ended) → StandTogether M script boxes clients
      → All (IsWhole M) boxes
  all-whole M script boxes clients stand k any less = let is = stand.boxes_are k any less in (is.is_box, is.course)

  -- Looked at, they stand together.
  pub stands-later : (M : LogModel W) (script : LiveScript)
      → ((box : SiteBox W) (ends : Ends) → AreStill box.ends ends → IsBox M box → IsBox M (with_ends box ends))
      → ((box : SiteBox W) (ends : Ends) → AreStill box.ends ends → HasCourse box → HasCourse (with_ends box ends))
      → ((box : SiteBox W) (ends : Ends) → AreStill box.ends ends → Became M box (with_ends box ends))
      → ((script : LiveScript) (boxes later : List (SiteBox W)) (clients asking : List Ended) → StandTogether M script boxes clients → GoOn M boxes later
      → AskOn clients asking → StandTogether M script later asking)
      → (boxes later : List (SiteBox W)) (clients : List Ended) → StandTogether M script boxes clients → AllStill boxes later → StandTogether M script later clients
  stands-later M script lent_box lent_course lent_same together boxes later clients stand still =
      together script boxes later clients clients stand (all-go M lent_box lent_course lent_same boxes later (all-whole M script boxes clients stand) still)
      (looked-ask clients clients (all-unlooked clients))

  pub still-self : (box : SiteBox W) → IsStill box box
  still-self box =
      (refl, (ins-self box.ends.sites_in.items, outs-self box.ends.sites_out.items, ins-self box.ends.clients_in.items, refl))

  pub still-trans : (a b c : SiteBox W) → IsStill a b → IsStill b c → IsStill a c
  still-trans a b c one other = (
    other.0 ∙ ap (λ (box : SiteBox W). with_ends box c.ends) one.0,
    (
      ins-trans a.ends.sites_in.items b.ends.sites_in.items c.ends.sites_in.items one.1.0 other.1.0,
      outs-trans a.ends.sites_out.items b.ends.sites_out.items c.ends.sites_out.items one.1.1 other.1.1,
      ins-trans a.ends.clients_in.items b.ends.clients_in.items c.ends.clients_in.items one.1.2 other.1.2,
      other.1.3 ∙ one.1.3,
    ),
  )

  pub all-self : (boxes : List (SiteBox W)) → AllStill boxes boxes
  all-self boxes = each-self (λ (k : ℕ) (one other : SiteBox W). IsStill one other) boxes (λ k box less. still-self box)

  pub all-trans : (a b c : List (SiteBox W)) → AllStill a b → AllStill b c → AllStill a c
  all-trans a b c one other =
      each-trans (λ (k : ℕ) (x y : SiteBox W). IsStill x y) (λ (k : ℕ) (x y : SiteBox W). IsStill x y) (λ (k : ℕ) (x y : SiteBox W). IsStill x y) a b c
      (λ k x y z less. still-trans x y z) one other

  -- One of them is looked at.
  pub one-still : (old mid : List (SiteBox W)) (at : ℕ) (x y : SiteBox W) → AllStill old mid → at < length mid → x ≡ get_or mid at x → IsStill x y
      → AllStill old (set mid at y)
  one-still old mid at x y all within is still =
      each-set (λ (k : ℕ) (one other : SiteBox W). IsStill one other) (λ (k : ℕ) (one other : SiteBox W). IsStill one other) old mid at y all
      (subst (λ (n : ℕ). at < n) (sym all.0) within)
      (λ d e before. still-trans (get_or old at d) x y
      (subst (λ (v : SiteBox W). IsStill (get_or old at d) v) (get_or-any mid at x e within ∙ sym is) before) still)
      (λ k one other isnt before. before)

  -- ## What rings brought
  -- What one ring brought it has brought before its ends were looked at.
  brought-back : (from to : ℕ) (one one' other other' : SiteBox W) → to < length one.ends.sites_out.items → from < length other.ends.sites_in.items
      → IsStill one one' → IsStill other other' → Brought from to one' other' → Brought from to one other
  brought-back from to one one' other other' out_there in_there still still' brought out inlet =
      subst (λ (all : List (Parcel × ℕ)). IsPrefix all (posted (get_or one.ends.sites_out.items to out))) (still'.1.0.1 from inlet inlet in_there).1
      (subst (λ (all : List (Parcel × ℕ)). IsPrefix (taken (get_or other'.ends.sites_in.items from inlet)) all) (still.1.1.1 to out out out_there).1 (brought out inlet))

  -- And so it is after.
  brought-on : (from to : ℕ) (one one' other other' : SiteBox W) → to < length one.ends.sites_out.items → from < length other.ends.sites_in.items
      → IsStill one one' → IsStill other other' → Brought from to one other → Brought from to one' other'
  brought-on from to one one' other other' out_there in_there still still' brought out inlet =
      subst (λ (all : List (Parcel × ℕ)). IsPrefix all (posted (get_or one'.ends.sites_out.items to out))) (sym (still'.1.0.1 from inlet inlet in_there).1)
      (subst (λ (all : List (Parcel × ℕ)). IsPrefix (taken (get_or other.ends.sites_in.items from inlet)) all) (sym (still.1.1.1 to out out out_there).1) (brought out inlet))

  module _ (old new : List (SiteBox W)) (all : AllStill old new) where
    later : (k : ℕ) → k < length old → k < length new
    later k less = subst (λ (n : ℕ). k < n) all.0 less

    earlier : (k : ℕ) → k < length new → k < length old
    earlier k less = subst (λ (n : ℕ). k < n) (sym all.0) less

    module _ (linked : AreLinked old) where
      out-there : (from to : ℕ) (any : SiteBox W) → from < length old → to < length old → to < length (get_or old from any).ends.sites_out.items
      out-there from to any first second = subst (λ (n : ℕ). to < n) (sym (linked.outs from any first)) second

      in-there : (from to : ℕ) (any : SiteBox W) → from < length old → to < length old → from < length (get_or old to any).ends.sites_in.items
      in-there from to any first second = subst (λ (n : ℕ). from < n) (sym (linked.ins to any second)) first

      pub still-linked : AreLinked new
      still-linked = record {
        ins = λ n any less. sym (all.1 n any any (earlier n less)).1.0.0 ∙ linked.ins n any (earlier n less) ∙ all.0;
        outs = λ n any less. sym (all.1 n any any (earlier n less)).1.1.0 ∙ linked.outs n any (earlier n less) ∙ all.0;
        rings = λ from to any first second out inlet.
            let f = earlier from first in
            let s = earlier to second in
            pair-on (get_or (get_or old from any).ends.sites_out.items to out) (get_or (get_or new from any).ends.sites_out.items to out)
            (get_or (get_or old to any).ends.sites_in.items from inlet) (get_or (get_or new to any).ends.sites_in.items from inlet)
            (linked.rings from to any f s out inlet)
            ((all.1 from any any f).1.1.1 to out out (out-there from to any f s)).0
            ((all.1 to any any s).1.0.1 from inlet inlet (in-there from to any f s)).0;
      }

      pub was-brought : (from to : ℕ) (any : SiteBox W) → from < length old → to < length old → Brought from to (get_or new from any) (get_or new to any)
          → Brought from to (get_or old from any) (get_or old to any)
      was-brought from to any first second =
          brought-back from to (get_or old from any) (get_or new from any) (get_or old to any) (get_or new to any) (out-there from to any first second)
          (in-there from to any first second) (all.1 from any any first) (all.1 to any any second)

      pub is-brought : (from to : ℕ) (any : SiteBox W) → from < length old → to < length old → Brought from to (get_or old from any) (get_or old to any)
          → Brought from to (get_or new from any) (get_or new to any)
      is-brought from to any first second =
          brought-on from to (get_or old from any) (get_or new from any) (get_or old to any) (get_or new to any) (out-there from to any first second)
          (in-there from to any first second) (all.1 from any any first) (all.1 to any any second)

  -- ## Two parts of a list
  -- What stands at a place of the first part, and at the first of the second.
  pub in-front : (boxes front : List (SiteBox W)) (first second : ℕ) (x any : SiteBox W) → front ≡ take second boxes → first < second → second < length boxes
      → get_or front first x ≡ get_or boxes first any
  in-front boxes front first second x any is below within =
      ap (λ (all : List (SiteBox W)). get_or all first x) is ∙ get_or-take second boxes first x below
      ∙ sym (get_or-any boxes first x any (omega (arith, below, within)))

  pub at-seam : (boxes behind : List (SiteBox W)) (second : ℕ) (x any : SiteBox W) → behind ≡ drop second boxes → second < length boxes
      → get_or behind 0 x ≡ get_or boxes second any
  at-seam boxes behind second x any is within =
      ap (λ (all : List (SiteBox W)). get_or all 0 x) is ∙ get_or-drop second boxes 0 x ∙ ap (λ (k : ℕ). get_or boxes k x) (omega arith)
      ∙ sym (get_or-any boxes second x any within)

  -- Both are changed.
  two-set : (boxes : List (SiteBox W)) (first second : ℕ) (y z : SiteBox W) → first < second → second < length boxes
      → set (take second boxes) first y ++ set (drop second boxes) 0 z ≡ set (set boxes first y) second z
  two-set boxes first second y z below within =
      let front = take second boxes in
      let behind = drop second boxes in
      let long : length front ≡ second = length-take-le second boxes (omega (arith, within)) in
      let first_in : first < length front = omega (arith, long, below) in
      sym (
      ap (λ (all : List (SiteBox W)). set (set all first y) second z) (sym (take-append-drop second boxes))
      ∙ ap (λ (all : List (SiteBox W)). set all second z) (set-append_left front behind first y first_in)
      ∙ set-append_right (set front first y) behind second second z (length-set front first y ∙ long) (omega arith)
      ∙ ap (λ (k : ℕ). set front first y ++ set behind k z) (omega arith)
      )

  two-still : (boxes : List (SiteBox W)) (first second : ℕ) (x y w z : SiteBox W) → first < second → second < length boxes → x ≡ get_or boxes first x
      → IsStill x y → w ≡ get_or boxes second w → IsStill w z → AllStill boxes (set (take second boxes) first y ++ set (drop second boxes) 0 z)
  two-still boxes first second x y w z below within is still other still' =
      subst (λ (all : List (SiteBox W)). AllStill boxes all) (sym (two-set boxes first second y z below within))
      (one-still boxes (set boxes first y) second w z (one-still boxes boxes first x y (all-self boxes) (omega (arith, below, within)) is still)
      (subst (λ (n : ℕ). second < n) (sym (length-set boxes first y)) within)
      (other ∙ sym (get_or-set_other boxes first second y w (λ same. absurd (omega (arith, same, below))))) still')

  pub parts-still : (boxes front behind : List (SiteBox W)) (first second : ℕ) (x y w z : SiteBox W) → front ≡ take second boxes → behind ≡ drop second boxes
      → first < second → second < length boxes → IsStill (get_or front first x) y → IsStill (get_or behind 0 w) z
      → AllStill boxes (set front first y ++ set behind 0 z)
  parts-still boxes front behind first second x y w z fronts behinds below within still still' =
      subst (λ (f : List (SiteBox W)). AllStill boxes (set f first y ++ set behind 0 z)) (sym fronts)
      (subst (λ (b : List (SiteBox W)). AllStill boxes (set (take second boxes) first y ++ set b 0 z)) (sym behinds)
      (two-still boxes first second (get_or front first x) y (get_or behind 0 w) z below within
      (in-front boxes front first second x (get_or front first x) fronts below within) still (at-seam boxes behind second w (get_or behind 0 w) behinds within) still'))
