-- What clients are told names only items, and is no more than can be counted.
use Rattle.std.proofs.Common.{◌≡◌, ℕ, ◌<◌, ◌≤◌, Vec, List, [], ◌∷◌, All, Contains, length, get_or, Some, sym, ◌∙◌, arith}
use Rattle.std.specs.declared.alloc.Global.{Global}
use Rattle.std.proofs.lemmas.List.{get_or-map, length-map}
use Rattle.std.proofs.lemmas.List.Elements.{All-contains}
use Rattle.pv_base.specs.Catalog.{Declared}
use Rattle.pv_base.specs.declared.limits.TheConstants.{MAX_CLIENTS, MAX_REQUESTS}
use Rattle.pv_cell.specs.Together.{histories_of}
use Rattle.pv_cell.specs.declared.site_box.SiteBox.{SiteBox}
use Rattle.pv_closing.specs.Boxes.{history_in}
use Rattle.pv_closing.specs.Clients.{AreServed, IsLineOf, IsServed}
use Rattle.pv_law_histories.specs.Fitting.{history_of}
use Rattle.pv_mail.specs.declared.asked.Asker.{Asker}
use Rattle.pv_protocol.specs.Lines.{Line}
use Rattle.pv_report.specs.NamesOnlyItems.{NamesOnlyItems}
use Rattle.pv_script.specs.LineView.{line_of}
use Rattle.pv_script.specs.declared.live.Client.{Client}
use Rattle.pv_script.specs.declared.live.Wish.{Wish}
use Rattle.pv_script.specs.declared.live.Wish.TheVariants.{Do, Peek}
use Rattle.pv_told.specs.Along.{line_by}
use Rattle.pv_told.specs.declared.line.ClientLine.{ClientLine}
use Rattle.pv_told.specs.declared.line.ClientWhat.{ClientWhat}
use Rattle.pv_told.specs.declared.line.ClientWhat.TheVariants as what
use Rattle.pv_live.specs.Naming.{AllNameOnlyItems, ToldNamesOnlyItems, WhatNamesOnlyItems}
use Rattle.pv_live.specs.Told.{AreFew}

-- some element of a list that has one
pub element : {A : Type 0} (xs : List A) (k : ℕ) → k < length xs → A
element [] k below = absurd (omega (arith, below))
element (x ∷ xs) k below = x

module _ {W : Type 0} (boxes : List (SiteBox W)) where
  -- The history of a box is that of its number.
  pub history-at : (n : ℕ) (any : SiteBox W) → n < length boxes → history_of (histories_of boxes) n ≡ history_in (get_or boxes n any)
  history-at n any below = get_or-map (λ (box : SiteBox W). history_in box) boxes n any [] below

  pub length-histories : length (histories_of boxes) ≡ length boxes
  length-histories = length-map boxes (λ (box : SiteBox W). history_in box)

module _ {W : Type 0} (catalog : Declared) (boxes : List (SiteBox W)) (printed : List Line) (fine : All (NamesOnlyItems catalog) printed)
    (there : (n : ℕ) (asker : Asker) (line : Line) → n < length boxes → line_by n asker (history_of (histories_of boxes) n) ≡ Some line → Contains printed line)
    (numbers : (n : ℕ) (any : SiteBox W) → n < length boxes → (get_or boxes n any).site.me ≡ n) where
  -- What is told by the box of a site is printed of the run.
  line-fine : (n : ℕ) (any : SiteBox W) (place k : ℕ) (wish : Wish) (number : ℕ) (said : ClientWhat) → n < length boxes
      → IsLineOf (get_or boxes n any) place k wish (record { request = number; what = said }) → WhatNamesOnlyItems catalog said
  line-fine n any place k (Do request) number (what.Line line) below one =
      let asker : Asker = record { client = place; number = k } in
      let by : line_by n asker (history_of (histories_of boxes) n) ≡ Some (line_of line) =
      (λ i. line_by (sym (numbers n any below) i) asker (history-at boxes n any below i)) ∙ one.heard in
      All-contains (NamesOnlyItems catalog) printed (line_of line) fine (there n asker (line_of line) below by)
  line-fine n any place k (Peek asked item) number (what.Line line) below one = absurd one.1
  line-fine n any place k wish number (what.Peek peek) below one = tt
  line-fine n any place k wish number what.Worn below one = tt
  line-fine n any place k wish number what.NoMemory below one = tt

  lines-fine : (n : ℕ) (any : SiteBox W) (place : ℕ) (client : Client) (lines : List ClientLine) → n < length boxes → IsServed (get_or boxes n any) place client lines
      → All (ToldNamesOnlyItems catalog) lines
  lines-fine n any place client lines below served = λ j d within.
      let many = served.lines_are.0 in
      let inside : j < length client.requests.items = omega (arith, many, within) in
      let wish = element client.requests.items j inside in
      line-fine n any place j (get_or client.requests.items j wish) (get_or lines j d).request (get_or lines j d).what below (served.lines_are.1 j wish d inside)

  module _ (clients : List Client) (told : List (Vec ClientLine Global)) (served : AreServed boxes clients told)
      (fit : (k : ℕ) (any : Client) → k < length clients → ((get_or clients k any).site.0 < length boxes) × (length (get_or clients k any).requests.items ≤ MAX_REQUESTS)) where
    inside : (k : ℕ) → k < length told → k < length clients
    inside k within = let many = served.0 in omega (arith, many, within)

    pub told-fine : AllNameOnlyItems catalog told
    told-fine = λ k d within.
        let any = element clients k (inside k within) in
        let site = (fit k any (inside k within)).0 in
        let box = element boxes (get_or clients k any).site.0 site in
        lines-fine (get_or clients k any).site.0 box _ (get_or clients k any) (get_or told k d).items site (served.1 k any d (inside k within) box)

    pub told-few : length clients ≤ MAX_CLIENTS → AreFew clients told
    told-few few = (
      served.0,
      omega (arith, few),
      λ k d within.
          let any = element clients k (inside k within) in
          let here = fit k any (inside k within) in
          let box = element boxes (get_or clients k any).site.0 here.0 in
          let many = (served.1 k any d (inside k within) box).lines_are.0 in
          let small = here.1 in
          omega (arith, many, small),
    )
