-- The run has come so far, whichever report it is of.
use Rattle.std.proofs.Common.{take}
use Rattle.pv_audit.proofs.SoFarLemmas.{RunsTo}
use Rattle.pv_audit.proofs.values.values_told.Given as goal

abbrev pub invariant-loop-txn : goal.invariant-loop-txn
invariant-loop-txn l = RunsTo l.catalog l.begun l.outcomes l.txns (take l.txn-index l.txns) l.values.items
