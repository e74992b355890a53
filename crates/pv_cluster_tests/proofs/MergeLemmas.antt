-- What is left of closed boxes has a merge.
use Rattle.std.proofs.Common.{◌≡◌, ℕ, ◌<◌, ◌≤◌, Vec, List, [], ◌∷◌, All, length, map, get_or, refl, sym, ap, ◌∙◌, subst}
use Rattle.std.specs.declared.alloc.Global.{Global}
use Rattle.std.proofs.lemmas.List.Elements.{All-contains, All-map, All-same, All-weaker}
use Rattle.pv_base.specs.Catalog.{Declared}
use Rattle.pv_cell.specs.Together.{histories_of}
use Rattle.pv_cell.specs.declared.site_box.SiteBox.{SiteBox}
use Rattle.pv_closing.specs.Boxes.{IsClosedBox}
use Rattle.pv_disk_model.specs.LogModel.{LogModel}
use Rattle.pv_history.specs.Entries.{stamps_of}
use Rattle.pv_history.specs.declared.entry.Entry.{Entry}
use Rattle.pv_history.specs.declared.entry.Taken.{Taken}
use Rattle.pv_history.specs.declared.entry.Taken.TheVariants as taken
use Rattle.pv_history.specs.declared.entry.TheConstants.{MAX_ENTRIES}
use Rattle.pv_law_histories.specs.Fitting.{CanAllBeDone, FitTogether}
use Rattle.pv_law_programs.proofs.PlanLemmas.{some_plan}
use Rattle.pv_mail.specs.Given.{IsTakenFor}
use Rattle.pv_merge.specs.Moments as merged
use Rattle.pv_merge.specs.Moments.{ArePlanned, IsPlanned}
use Rattle.pv_model.specs.Check.{IsPlan}
use Rattle.pv_model.specs.Plan.{plan_of}
use Rattle.pv_model.specs.Syntax.{Program}
use Rattle.pv_protocol.specs.WellFormed.{CanRun}
use Rattle.pv_rings.specs.Rings.{Each}
use Rattle.pv_site.specs.SiteState.{SiteState, setup_of}
use Rattle.pv_cluster_tests.specs.Merging.{CanBeMerged}

-- ---- plans
plan-of-runnable : (catalog : Declared) (program : Program) → CanRun catalog program → IsPlan program catalog.items (plan_of program catalog.items)
plan-of-runnable catalog program runs =
    some_plan program catalog.items
    (λ n named. All-contains (λ (item : ℕ). item < length catalog.items) runs.runnable.items n runs.runnable.known (runs.runnable.are.whole n named))

planned-for : (me : ℕ) (catalog : Declared) (input : Taken) → IsTakenFor me catalog input → IsPlanned catalog input
planned-for me catalog (taken.Request client asked) is =
    subst (λ parts. IsPlan asked.program catalog.items parts) (sym is.1) (plan-of-runnable catalog asked.program is.0)
planned-for me catalog (taken.Parcel from stamp place message) is = tt
planned-for me catalog taken.Tick is = tt

-- ---- histories
module _ {W : Type 0} where
  -- The histories that boxes hand out are theirs.
  histories-same : (boxes : List (SiteBox W)) (histories : List (Vec Entry Global)) → histories ≡ map (λ box. box.history) boxes
      → merged.histories_of histories ≡ histories_of boxes
  histories-same boxes histories is = ap merged.histories_of is ∙ by boxes
    where
      by : (boxes : List (SiteBox W)) → merged.histories_of (map (λ box. box.history) boxes) ≡ histories_of boxes
      by [] = refl
      by (box ∷ boxes) = ap (λ rest. stamps_of box.history.items ∷ rest) (by boxes)

  module _ (M : LogModel W) (catalog : Declared) (sites : List (SiteState W)) (boxes : List (SiteBox W)) (P : ℕ → SiteState W → SiteBox W → Type 0)
      (each : Each (λ n site box. IsClosedBox M catalog n box × P n site box) sites boxes) where
    closed-at : (n : ℕ) (any : SiteBox W) → n < length boxes → IsClosedBox M catalog n (get_or boxes n any)
    closed-at n any below = (each.1 n any.site any (subst (λ (m : ℕ). n < m) (sym each.0) below)).0

    module _ (histories : List (Vec Entry Global)) (are : histories ≡ map (λ box. box.history) boxes) where
      of-boxes : (Q : Vec Entry Global → Type 0) → ((n : ℕ) (any : SiteBox W) → n < length boxes → Q (get_or boxes n any).history) → All Q histories
      of-boxes Q thus =
          All-same Q histories (map (λ (box : SiteBox W). box.history) boxes) are (All-map Q (λ (box : SiteBox W). box.history) boxes (λ n any below. thus n any below))

      plans-so : All (λ history. ArePlanned catalog history.items) histories
      plans-so =
          of-boxes (λ (history : Vec Entry Global). ArePlanned catalog history.items)
          (λ n any below.
          let box = get_or boxes n any in
          let is = closed-at n any below in
          All-weaker (λ (entry : Entry). IsTakenFor box.site.me box.site.catalog entry.input) (λ (entry : Entry). IsPlanned catalog entry.input)
          (λ entry so. planned-for box.site.me catalog entry.input (subst (λ (c : Declared). IsTakenFor box.site.me c entry.input) is.catalog_is so))
          box.history.items is.is_box.planned)

      pub can-be-merged : FitTogether (setup_of catalog) (histories_of boxes) → CanAllBeDone catalog (histories_of boxes) → CanBeMerged catalog histories
      can-be-merged fit done =
          let same = sym (histories-same boxes histories are) in
          record {
            fit = subst (FitTogether (setup_of catalog)) same fit;
            done = subst (CanAllBeDone catalog) same done;
            plans = plans-so;
            sizes = of-boxes (λ (history : Vec Entry Global). length history.items ≤ MAX_ENTRIES) (λ n any below. (closed-at n any below).is_box.entries);
          }
