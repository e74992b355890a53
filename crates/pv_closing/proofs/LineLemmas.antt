-- What clients hear by the boxes of their sites.
use Rattle.std.proofs.Common.{◌≡◌, ℕ, ◌+◌, ◌<◌, ◌≤◌, ◌==◌, Bool, true, false, List, [], ◌∷◌, ◌++◌, All, length, get_or, take, sym, ap, ◌∙◌, subst, arith, if◌then◌else◌}
use Rattle.std.proofs.Math.ListN.{get_or-append}
use Rattle.std.proofs.Math.Seq.{get_or-append_seam}
use Rattle.std.proofs.lemmas.List.{length-append}
use Rattle.std.specs.Prelude.{None, Some, Vec, Contains}
use Rattle.std.specs.declared.alloc.Global.{Global}
use mathlib.Core.Logic.{dite}
use native.Mathlib.Decide.{ℕ_discrete}
use Rattle.pv_base.specs.declared.limits.TheConstants.{MAX_REQUESTS}
use Rattle.pv_model.specs.LiveScript as model
use Rattle.pv_law_passing.specs.Asking.{asked_by}
use Rattle.pv_mail.specs.declared.asked.Asker.{Asker}
use Rattle.pv_rings.proofs.EachLemmas.{get_or-any}
use Rattle.pv_script.specs.LineView.{line_of}
use Rattle.pv_script.specs.declared.live.Client.{Client}
use Rattle.pv_script.specs.declared.live.LiveScript.{LiveScript}
use Rattle.pv_script.specs.declared.live.Wish.{Wish}
use Rattle.pv_script.specs.declared.live.Wish.TheVariants.{Do, Peek}
use Rattle.pv_told.specs.Lines.{AreLinesOf, IsSaid}
use Rattle.pv_told.specs.declared.line.ClientLine.{ClientLine}
use Rattle.pv_told.specs.declared.line.ClientWhat.{ClientWhat}
use Rattle.pv_told.specs.declared.line.ClientWhat.TheVariants as what
use Rattle.pv_cell.specs.Box.{IsWorn}
use Rattle.pv_cell.specs.declared.site_box.SiteBox.{SiteBox}
use Rattle.pv_closing.proofs.AskedLemmas.{no-line}
use Rattle.pv_closing.proofs.LookLemmas.{looks-in-order}
use Rattle.pv_closing.specs.Boxes.{history_in}
use Rattle.pv_opening.specs.Counts.{count_at}
use Rattle.pv_opening.specs.Opening.{IsHere, IsRead}
use Rattle.pv_closing.specs.Clients.{AreTold, HearsAll, IsTold}
use Rattle.pv_closing.specs.Lines.{HaveLooked, IsHeard, IsLineFor, IsUntold}

some-none : {A : Type 0} (x : A) → Some x ≡ None → ⊥
some-none x is = absurd cc

true-false : (b : Bool) → b ≡ true → b ≡ false → ⊥
true-false b is isnt = absurd cc

module _ {W : Type 0} (box : SiteBox W) (place : ℕ) (worn : Bool) (to : worn ≡ true → IsWorn box) (from : IsWorn box → worn ≡ true) where
  -- What the box's site's history says is what is heard.
  heard : (asker : Asker) (w : ClientWhat) → IsSaid box.site.me worn (history_in box) asker w → IsHeard box asker w
  heard asker (what.Line one) is = is
  heard asker (what.Peek peek) is = absurd is
  heard asker what.Worn is = (is.0, to is.1)
  heard asker what.NoMemory is = (is.0, λ down. true-false worn (from down) is.1)

  untold : (n : ℕ) (w : ClientWhat) → IsSaid box.site.me worn (history_in box) (record { client = place; number = n }) w
      → ((asked : model.Request) → Contains (asked_by place (history_in box)) asked → asked.number ≡ n → ⊥) → IsUntold w
  untold n (what.Line one) is none = some-none (line_of one) (sym is ∙ no-line box.site.me place n (history_in box) none)
  untold n (what.Peek peek) is none = absurd is
  untold n what.Worn is none = tt
  untold n what.NoMemory is none = tt

  -- So it is of a request, and of a look once its line is put in the place of what the history says.
  pub one-heard : (k : ℕ) (wish : Wish) (line told : ClientLine) → line.request ≡ k → IsSaid box.site.me worn (history_in box) (record { client = place; number = k }) line.what
      → IsLineFor box wish line told → IsTold box place k wish told
  one-heard k (Do request) line told is said same =
      let heard_line : IsTold box place k (Do request) line = (is, heard (record { client = place; number = k }) line.what said, untold k line.what said) in
      subst (λ (one : ClientLine). IsTold box place k (Do request) one) (sym same) heard_line
  one-heard k (Peek number item) line told is said found = (found.0 ∙ is, found.1)

  -- So it is of all that a client wants, once looks are put among the lines of requests.
  pub all-heard : (client : Client) (lines told : List ClientLine) → AreLinesOf box.site.me worn (history_in box) place (length client.requests.items) lines
      → HaveLooked box client.requests.items lines (length client.requests.items) told → HearsAll box place client told
  all-heard client lines told are looked = (
    (
      sym are.0 ∙ sym looked.count,
      λ k wish line less.
          let is = are.1 k line less in
          one-heard k (get_or client.requests.items k wish) (get_or lines k line) (get_or told k line) is.0 is.1 (looked.told k wish line less),
    ),
    looks-in-order box place client.requests.items lines told looked are.0,
  )

-- ## Places
count-case : (test : Bool) (place rest whole : ℕ) → place + (if test then rest + 1 else rest) ≡ whole → (if test then place + 1 else place) + rest ≡ whole
count-case true place rest whole is = omega (arith, is)
count-case false place rest whole is = is

-- One client more is counted.
pub count-more : (site place next : ℕ) (client : Client) (rest : List Client) (whole : ℕ) → place + count_at site (client ∷ rest) ≡ whole
    → next ≡ (if client.site.0 == site then place + 1 else place) → next + count_at site rest ≡ whole
count-more site place next client rest whole before is =
    ap (λ (n : ℕ). n + count_at site rest) is ∙ count-case (client.site.0 == site) place (count_at site rest) whole before

few-case : (test : Bool) (place at : ℕ) → place ≤ at → (if test then place + 1 else place) ≤ at + 1
few-case true place at few = omega (arith, few)
few-case false place at few = omega (arith, few)

pub few-more : (site place next at : ℕ) (client : Client) → next ≡ (if client.site.0 == site then place + 1 else place) → place ≤ at → next ≤ at + 1
few-more site place next at client is few = subst (λ (n : ℕ). n ≤ at + 1) (sym is) (few-case (client.site.0 == site) place at few)

-- ## All clients
-- Each client is of a site that is there, and has few requests.
pub this-fits : ((script : LiveScript) (k : ℕ) (any : Client) → IsRead script → k < length script.clients.items
    → ((get_or script.clients.items k any).site.0 < script.catalog.sites) × (length (get_or script.clients.items k any).requests.items ≤ MAX_REQUESTS))
    → (script : LiveScript) → IsRead script → (at : ℕ) (client : Client) → client ≡ get_or script.clients.items at client
    → at < length script.clients.items → (client.site.0 < script.catalog.sites) × (length client.requests.items ≤ MAX_REQUESTS)
this-fits fit script read at client is within =
    subst (λ (one : Client). (one.site.0 < script.catalog.sites) × (length one.requests.items ≤ MAX_REQUESTS)) (sym is) (fit script at client read within)

-- Each looks at items of its site alone.
pub this-looks : ((script : LiveScript) (k : ℕ) (any : Client) → IsRead script → k < length script.clients.items
    → All (IsHere script.catalog.items (get_or script.clients.items k any).site.0) (get_or script.clients.items k any).requests.items)
    → (script : LiveScript) → IsRead script → (at : ℕ) (client : Client) → client ≡ get_or script.clients.items at client
    → at < length script.clients.items → All (IsHere script.catalog.items client.site.0) client.requests.items
this-looks here script read at client is within =
    subst (λ (one : Client). All (IsHere script.catalog.items one.site.0) one.requests.items) (sym is) (here script at client read within)

module _ {W : Type 0} (boxes : List (SiteBox W)) (clients : List Client) where
  abbrev IsOne : ℕ → Client → Vec ClientLine Global → Type 0
  IsOne k client lines =
      (any : SiteBox W) → HearsAll (get_or boxes client.site.0 any) (count_at client.site.0 (take k clients)) client lines.items

  -- So many clients have heard.
  abbrev pub AreToldTo : ℕ → List (Vec ClientLine Global) → Type 0
  AreToldTo count lines =
      (length lines ≡ count) × ((k : ℕ) (client : Client) (heard : Vec ClientLine Global) → k < count → IsOne k (get_or clients k client) (get_or lines k heard))

  pub told-more : (at : ℕ) (lines : List (Vec ClientLine Global)) (more : Vec ClientLine Global) → AreToldTo at lines → at < length clients
      → ((any : Client) → IsOne at (get_or clients at any) more) → AreToldTo (at + 1) (lines ++ more ∷ [])
  told-more at lines more are within is = (
    omega (arith, are.0, length-append lines (more ∷ [])),
    λ k client heard less. dite (ℕ_discrete k at)
        (λ same.
        let at_end : get_or (lines ++ more ∷ []) k heard ≡ more =
        ap (λ (j : ℕ). get_or (lines ++ more ∷ []) j heard) (same ∙ sym are.0) ∙ get_or-append_seam lines more [] heard in
        subst (IsOne k (get_or clients k client)) (sym at_end) (subst (λ (j : ℕ). IsOne j (get_or clients j client) more) (sym same) (is client)))
        (λ isnt.
        let below : k < at = omega (arith, less, isnt) in
        subst (IsOne k (get_or clients k client)) (sym (get_or-append lines (more ∷ []) heard k (omega (arith, below, are.0)))) (are.1 k client heard below)),
  )

  -- One client has heard, by the box of its site.
  pub one-told : (at : ℕ) (client : Client) (box : SiteBox W) (place : ℕ) (lines : Vec ClientLine Global) → client ≡ get_or clients at client → at < length clients
      → box ≡ get_or boxes client.site.0 box → client.site.0 < length boxes
      → ((any : Client) → place ≡ count_at (get_or clients at any).site.0 (take at clients)) → HearsAll box place client lines.items
      → (any : Client) → IsOne at (get_or clients at any) lines
  one-told at client box place lines is within box_is there places told any =
      subst (λ (c : Client). IsOne at c lines) (is ∙ get_or-any clients at any client within)
      (λ other. subst (λ (b : SiteBox W). HearsAll b (count_at client.site.0 (take at clients)) client lines.items)
      (box_is ∙ get_or-any boxes client.site.0 other box there)
      (subst (λ (p : ℕ). HearsAll box p client lines.items) (places client ∙ ap (λ (c : Client). count_at c.site.0 (take at clients)) (sym is)) told))

  pub all-are-told : (lines : List (Vec ClientLine Global)) → AreToldTo (length clients) lines → AreTold boxes clients lines
  all-are-told lines are = (sym are.0, λ k client heard less any. are.1 k client heard less any)
