-- The names of the cases so far are added, those of the last one among them; what the list held stands in front.
use Rattle.std.proofs.Common.{◌≡◌, IsTrue, length, take}
use Rattle.std.specs.List.{Contains}
use Rattle.pv_base.specs.Polyvalue.{names}
use Rattle.pv_base.specs.declared.txn.TxnId.{TxnId}
use Rattle.pv_cases.specs.Names.{mentions, Adds}
use Rattle.pv_cases.proofs.names.push_all.Given as goal

abbrev pub invariant-loop-case : goal.invariant-loop-case
invariant-loop-case g l = record {
  added : Adds (names (take l.case-index l.cases)) l.initial.txns.items l.txns.items;
  last : (txn : TxnId) → IsTrue (mentions l.before txn) → Contains l.txns.items txn;
  kept : take (length l.initial.txns.items) l.txns.items ≡ l.initial.txns.items;
}
