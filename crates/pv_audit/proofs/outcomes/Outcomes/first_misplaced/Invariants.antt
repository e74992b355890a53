-- The first one is among those that are left, whichever report they are of.
use Rattle.std.proofs.Common.{◌≡◌, drop}
use Rattle.std.specs.List.{find}
use Rattle.pv_audit.specs.Kept.{KeepsFirst}
use Rattle.pv_audit.specs.Reports.{Report, is_misplaced}
use Rattle.pv_audit.specs.ToldView.{AreOutcomesIn}
use Rattle.pv_audit.proofs.outcomes.Outcomes.first_misplaced.Given as goal

abbrev pub invariant-loop-txn : goal.invariant-loop-txn
invariant-loop-txn l =
    (told : Report) → AreOutcomesIn l.self told → KeepsFirst l.begun told.begun → find (is_misplaced told) l.txns ≡ find (is_misplaced told) (drop l.txn-index l.txns)
