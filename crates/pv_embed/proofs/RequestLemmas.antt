-- A program that is read and checked can run.
use Rattle.std.proofs.Common.{arith, ◌≡◌, ℕ, zero, suc, ◌<◌, ◌≤◌, Bool, true, false, Option, Some, None, List, length, refl}
use Rattle.std.specs.Prelude.{get_or, IsTrue, nat_lt, if◌then◌else◌}
use Rattle.std.proofs.lemmas.Bool.{ltb-false}
use Rattle.std.proofs.lemmas.List.Elements.{All-get_or}
use Rattle.pv_base.specs.Catalog.{Declared}
use Rattle.pv_base.specs.declared.limits.TheConstants.{MAX_PROGRAM_ITEMS}
use Rattle.pv_check.specs.CheckRefusal.{check_refusal, first_cause, refusal_of_count, refusal_of_query}
use Rattle.pv_check.specs.declared.plan.CheckError.{CheckError}
use Rattle.pv_check.specs.declared.plan.CheckError.TheVariants.{TooManyItems}
use Rattle.pv_law_programs.proofs.DeclaredItems.{declared-items}
use Rattle.pv_law_world.proofs.NumeralLemmas.{small-numbers}
use Rattle.pv_model.specs.Check.{AreItems, names_item}
use Rattle.pv_model.specs.ProgramText.{IsProgramText}
use Rattle.pv_model.specs.Syntax.{Program}
use Rattle.pv_protocol.specs.WellFormed.{CanRun}

no_first : (first other : Option CheckError) → first_cause first other ≡ None → first ≡ None
no_first (Some cause) other is = cc
no_first None other is = refl

not_above : (above : Bool) (cause : CheckError) → (if above then Some cause else None) ≡ None → above ≡ false
not_above true cause is = cc
not_above false cause is = refl

some_items : (count : ℕ) → refusal_of_count MAX_PROGRAM_ITEMS count ≡ None → 0 < count
some_items zero is = cc
some_items (suc n) is = omega arith

few_items : (count : ℕ) → refusal_of_count MAX_PROGRAM_ITEMS count ≡ None → count ≤ MAX_PROGRAM_ITEMS
few_items zero is = omega arith
few_items (suc n) is = let within : nat_lt MAX_PROGRAM_ITEMS (suc n) ≡ false = not_above (nat_lt MAX_PROGRAM_ITEMS (suc n)) (TooManyItems (suc n)) is in ltb-false MAX_PROGRAM_ITEMS (suc n) within

-- A program of the text that isn't refused can run.
pub can_run : (catalog : Declared) (text : List ℕ) (program : Program) (query : Bool) (items : List ℕ) → IsProgramText catalog text program → AreItems program items
    → check_refusal MAX_PROGRAM_ITEMS (length items) program query ≡ None → CanRun catalog program
can_run catalog text program query items is are accepted =
    let counted : refusal_of_count MAX_PROGRAM_ITEMS (length items) ≡ None =
    no_first (refusal_of_count MAX_PROGRAM_ITEMS (length items)) (if query then refusal_of_query program else None) accepted in
    record {
      runnable = record {
        items = items;
        are = are;
        some = some_items (length items) counted;
        few = few_items (length items) counted;
        known = λ k d below. declared-items catalog text program is (get_or items k d) (All-get_or (λ m. IsTrue (names_item program m)) items k d below are.each);
      };
      numbers = small-numbers catalog text program is;
    }
