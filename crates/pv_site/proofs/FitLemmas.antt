-- A program fits a site with its plan exactly where it can run there and has that plan.
use Rattle.std.proofs.Common.{◌≡◌, refl, ap, ◌∙◌, ℕ, zero, suc, ◌<◌, ◌≤◌, Bool, true, false, List, length, None, arith}
use Rattle.std.specs.Prelude.{nat_lt}
use Rattle.std.proofs.lemmas.Bool.{ltb-false, ltb-true}
use Rattle.std.proofs.lemmas.List.Elements.{All-contains}
use Rattle.pv_base.specs.Catalog.{Declared}
use Rattle.pv_base.specs.declared.limits.TheConstants.{MAX_PROGRAM_ITEMS}
use Rattle.pv_check.specs.CheckRefusal.{check_refusal}
use Rattle.pv_check.specs.Fits.{HasPlan}
use Rattle.pv_law_programs.proofs.ItemLemmas.{one_items, some_items}
use Rattle.pv_law_step.proofs.FitLemmas.{small}
use Rattle.pv_model.specs.Check.{Part}
use Rattle.pv_model.specs.Plan.{plan_of}
use Rattle.pv_model.specs.Syntax.{Program}
use Rattle.pv_protocol.specs.WellFormed.{CanRun, has_small_numbers}

pub ruleset sizes = (small)

-- There is no cause exactly where the items are some and not too many.
few-by : (program : Program) (n : ℕ) (b : Bool) → nat_lt MAX_PROGRAM_ITEMS (suc n) ≡ b → check_refusal MAX_PROGRAM_ITEMS (suc n) program false ≡ None
    → suc n ≤ MAX_PROGRAM_ITEMS
few-by program n true is none = absurd (let wrong : ⊥ = cc in wrong)
few-by program n false is none = ltb-false MAX_PROGRAM_ITEMS (suc n) is

allowed-few : (program : Program) (count : ℕ) → check_refusal MAX_PROGRAM_ITEMS count program false ≡ None → (0 < count) × (count ≤ MAX_PROGRAM_ITEMS)
allowed-few program zero none = absurd (let wrong : ⊥ = cc in wrong)
allowed-few program (suc n) none = (omega arith, few-by program n (nat_lt MAX_PROGRAM_ITEMS (suc n)) refl none)

few-allowed-by : (program : Program) (n : ℕ) (b : Bool) → nat_lt MAX_PROGRAM_ITEMS (suc n) ≡ b → suc n ≤ MAX_PROGRAM_ITEMS
    → check_refusal MAX_PROGRAM_ITEMS (suc n) program false ≡ None
few-allowed-by program n true is few = absurd (omega (arith, few, ltb-true MAX_PROGRAM_ITEMS (suc n) is))
few-allowed-by program n false is few = cc

few-allowed : (program : Program) (count : ℕ) → 0 < count → count ≤ MAX_PROGRAM_ITEMS → check_refusal MAX_PROGRAM_ITEMS count program false ≡ None
few-allowed program zero some few = absurd (omega (arith, some))
few-allowed program (suc n) some few = few-allowed-by program n (nat_lt MAX_PROGRAM_ITEMS (suc n)) refl few

module _ (catalog : Declared) (program : Program) (parts : List Part) where
  pub planned-runs : HasPlan program catalog.items parts → has_small_numbers program ≡ true → CanRun catalog program × (parts ≡ plan_of program catalog.items)
  planned-runs has small =
      let named = some_items program in
      let few = allowed-few program (length named.0) (has.allowed named.0 named.1) in (
        record {
          runnable = record {
            items = named.0;
            are = named.1;
            some = few.0;
            few = few.1;
            known = λ k d within. has.known _ (named.1.each k d within);
          };
          numbers = small;
        },
        has.plan,
      )

  pub runs-planned : CanRun catalog program × (parts ≡ plan_of program catalog.items) → HasPlan program catalog.items parts
  runs-planned (runs, plan) = record {
    known = λ n named. All-contains (λ (n : ℕ). n < length catalog.items) runs.runnable.items n runs.runnable.known (runs.runnable.are.whole n named);
    allowed = λ named are.
        ap (λ (items : List ℕ). check_refusal MAX_PROGRAM_ITEMS (length items) program false) (one_items program named runs.runnable.items are runs.runnable.are)
        ∙ few-allowed program (length runs.runnable.items) runs.runnable.some runs.runnable.few;
    plan = plan;
  }
