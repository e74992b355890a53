-- What is left leads to the first list.
use Rattle.std.proofs.Common.{drop}
use Rattle.std.specs.Prelude.{IsTrue}
use Rattle.std.specs.List.{Contains}
use Rattle.pv_audit.specs.Differences.{Leads}
use Rattle.pv_base.specs.Assignment.{AreAscending}
use Rattle.pv_base.specs.Polyvalue.{names}
use Rattle.pv_base.specs.declared.txn.TxnId.{TxnId}
use Rattle.pv_audit.proofs.difference.first_difference.Given as goal

abbrev pub invariant-loop-txn : goal.invariant-loop-txn
invariant-loop-txn l =
    AreAscending l.txns → ((txn : TxnId) → IsTrue (names l.fn.first txn) → Contains l.txns txn) → ((txn : TxnId) → IsTrue (names l.fn.second txn) → Contains l.txns txn)
    → Leads l.fn.first l.fn.second l.txns l.names.items l.pair.first l.pair.second (drop l.txn-index l.txns) l.list.items
