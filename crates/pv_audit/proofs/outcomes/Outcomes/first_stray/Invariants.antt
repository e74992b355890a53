-- The first one is among those that are left, whichever report they are of.
use Rattle.std.proofs.Common.{◌≡◌, drop}
use Rattle.std.specs.List.{find}
use Rattle.pv_audit.specs.Reports.{Report, is_stray}
use Rattle.pv_audit.specs.ToldView.{AreOutcomesIn}
use Rattle.pv_audit.proofs.outcomes.Outcomes.first_stray.Given as goal

abbrev pub invariant-loop-txn : goal.invariant-loop-txn
invariant-loop-txn l = (told : Report) → AreOutcomesIn l.self told → find (is_stray told) l.txns ≡ find (is_stray told) (drop l.txn-index l.txns)
