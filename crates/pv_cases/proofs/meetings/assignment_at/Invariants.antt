-- The assignment of the transactions left at the place left, after those found so far, is the one sought.
use Rattle.std.proofs.Common.{◌≡◌, ◌<◌, ◌^◌, ◌++◌, List, Some, length}
use Rattle.std.specs.Prelude.{slice_get}
use Rattle.pv_base.specs.Assignment.{assignments}
use Rattle.pv_base.specs.declared.txn.TxnId.{TxnId}
use Rattle.pv_cases.proofs.meetings.assignment_at.Given as goal

abbrev pub invariant-loop-txn : goal.invariant-loop-txn
invariant-loop-txn l = record {
  few : length l.left < 32;
  there : l.at < 2 ^ length l.left;
  sought : (rest : List TxnId) → slice_get (assignments l.left) l.at ≡ Some rest
      → slice_get (assignments l.fn.txns) l.fn.place ≡ Some (l.yes.items ++ rest);
}

abbrev pub decreases-loop-txn : goal.decreases-loop-txn
decreases-loop-txn l = length l.left
