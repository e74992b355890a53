-- Nodes that name only later transactions.
use Rattle.std.proofs.Common.{⊎_elim, List, IsTrue, subst}
use Rattle.pv_base.specs.declared.txn.TxnId.{TxnId}
use Rattle.pv_base.specs.Assignment.{precedes}
use Rattle.pv_base.specs.Polyvalue.{Case, NamesOnlyAfter}
use Rattle.pv_base.proofs.AssignmentLemmas.{precedes-trans}
use Rattle.pv_cases.proofs.TestLemmas.{test-from}
use Rattle.pv_cases.proofs.TestedCases.{IsTested}

module _ {V : Type 0} where
  -- A test names its transaction first.
  pub test-after : {cases : List (Case V)} {tested : TxnId} {aborted committed : List (Case V)} (txn : TxnId) → IsTested tested aborted committed cases → IsTrue (precedes txn tested)
      → NamesOnlyAfter txn cases
  test-after {tested = tested} txn at before u named =
      ⊎_elim
      (λ same. subst (λ (w : TxnId). IsTrue (precedes txn w)) same before)
      (λ later. precedes-trans txn tested u before later)
      (test-from at u named)
