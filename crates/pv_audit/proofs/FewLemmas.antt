-- A polyvalue has few cases with few literals; and what two clauses say of a result.
use Rattle.std.proofs.Common.{◌<◌, ◌≤◌, ◌^◌, List, Ok, Err, Result, map, length, arith}
use Rattle.std.specs.Prelude.{All, IfOk}
use Rattle.std.specs.List.{sum}
use Rattle.std.proofs.lemmas.List.Sums.{sum-map, sum_by-le}
use Rattle.pv_base.specs.Polyvalue.{Case, IsPolyvalue}
use Rattle.pv_base.specs.declared.limits.TheConstants.{HELD_NAMES}
use Rattle.pv_law_format.proofs.CaseCount.{polyvalue-few}

module _ {V : Type 0} (cases : List (Case V)) (is : IsPolyvalue HELD_NAMES cases) where
  pub few-cases : length cases < 4294967296
  few-cases = let few : length cases ≤ 2 ^ HELD_NAMES = (polyvalue-few HELD_NAMES cases is).count in omega (arith, few)

  pub few-literals : sum (map (λ (case : Case V). length case.when) cases) < 4294967296
  few-literals =
      let few : length cases ≤ 2 ^ HELD_NAMES = (polyvalue-few HELD_NAMES cases is).count in
      let each : All (λ (case : Case V). length case.when ≤ 256) cases = λ k d within. (let one = (polyvalue-few HELD_NAMES cases is).literals k d within in omega (arith, one)) in
      omega (arith, few, sum-map (λ (case : Case V). length case.when) cases, sum_by-le (λ (case : Case V). length case.when) 256 cases each)

pub if-both : {X E : Type 0} (r : Result X E) (P Q R : X → Type 0) → ((x : X) → P x → Q x → R x) → IfOk r P → IfOk r Q → IfOk r R
if-both (Ok x) P Q R both p q = both x p q
if-both (Err e) P Q R both p q = tt
