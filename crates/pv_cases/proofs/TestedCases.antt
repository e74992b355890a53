-- The cases of a test, whose sides have fewer.
use Rattle.std.proofs.Common.{◌≡◌, true, false, List, [], ◌++◌, refl, ap, ◌∙◌, length, ◌<◌, arith}
use Rattle.pv_base.specs.declared.txn.TxnId.{TxnId}
use Rattle.pv_base.specs.Polyvalue.{Case, under, value_at}
use Rattle.pv_law_polyvalues.proofs.PolyvalueLemmas.{value_at-front}
use Rattle.pv_cases.specs.Sides.{AreSides}
use Rattle.pv_cases.proofs.CaseCounts.{length-tested, some_case}

-- The cases are those of a test of the transaction, with these sides.
pub record IsTested {V : Type 0} (txn : TxnId) (aborted committed cases : List (Case V)) : Type 0 where
  pub is : cases ≡ under txn false aborted ++ under txn true committed
  pub sides : AreSides txn aborted committed

-- The value where no transaction commits is that of the side where the tested one doesn't.
pub none-tested : {V : Type 0} {txn : TxnId} {aborted committed cases : List (Case V)} → IsTested txn aborted committed cases →
    value_at cases [] ≡ value_at aborted []
none-tested {V} {txn} {aborted} {committed} top = ap (λ (cases : List (Case V)). value_at cases []) top.is ∙ value_at-front txn aborted committed [] refl

-- Each side of a test has fewer cases.

pub aborted-shorter : {V : Type 0} {txn : TxnId} {aborted committed cases : List (Case V)} → IsTested txn aborted committed cases → length aborted < length cases
aborted-shorter {V} {txn} {aborted} {committed} top = omega (arith, ap length top.is, length-tested txn aborted committed, some_case top.sides.committed_canonical)

pub committed-shorter : {V : Type 0} {txn : TxnId} {aborted committed cases : List (Case V)} → IsTested txn aborted committed cases → length committed < length cases
committed-shorter {V} {txn} {aborted} {committed} top = omega (arith, ap length top.is, length-tested txn aborted committed, some_case top.sides.aborted_canonical)
