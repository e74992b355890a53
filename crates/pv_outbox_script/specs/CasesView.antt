-- Cases so far as the code holds them, and that they are in range.
use Rattle.std.specs.Prelude.{ℕ, ℤ, ◌+◌, ◌<◌, ◌^◌, List, map, length, sum, All}
use Rattle.std.specs.Global.{Vec}
use Rattle.std.specs.Int.{w64}
use Rattle.std.specs.Int.RustNames.{FitsSigned}
use Rattle.pv_base.specs.Polyvalue.{Case}
use Rattle.pv_base.specs.declared.limits.TheConstants.{MAX_SITES}
use Rattle.pv_base.specs.declared.literal.Literal.{Literal}
use Rattle.pv_format.specs.Range.{IsCaseWithin, IsTxnWithin}
use Rattle.pv_outbox_script.specs.Cases.{SoFar}
use Rattle.pv_outbox_script.specs.declared.cases.CasesSoFar.{CasesSoFar}

abbrev pub so_far_of : CasesSoFar → SoFar
so_far_of so_far = record { done = so_far.done.items; place = so_far.place; value = so_far.value; when = so_far.when.items }

abbrev pub items_of : Vec (Case ℤ) → List (Case ℤ)
items_of cases = cases.items

-- how many cases there are, and how many literals they have, together
abbrev pub weight_of : List (Case ℤ) → ℕ
weight_of cases = length cases + sum (map (λ (case : Case ℤ). length case.when) cases)

-- Cases that bytes may spell, and not more of them and of their literals than can be counted.
pub record AreInRange (cases : List (Case ℤ)) : Type 0 where
  pub each : All (IsCaseWithin MAX_SITES) cases
  pub few : weight_of cases < 2 ^ 32

-- So far the cases are in range, and so is the one that is begun. This is more than all cases and literals so far.
pub record IsInRange (so_far : SoFar) (count : ℕ) : Type 0 where
  pub each : All (IsCaseWithin MAX_SITES) so_far.done
  pub literals : All (λ (literal : Literal). IsTxnWithin MAX_SITES literal.txn) so_far.when
  pub value : FitsSigned w64 so_far.value
  pub few : weight_of so_far.done + length so_far.when < count
  pub counted : count < 2 ^ 32
