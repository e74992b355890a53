-- The marks so far are counted.
use Rattle.std.proofs.Common.{◌≡◌, ◌≤◌, length}
use Rattle.pv_check.specs.Wants.{wants_among}
use Rattle.pv_check.proofs.marks.count_named.Given as goal

abbrev pub invariant-loop-mark : goal.invariant-loop-mark
invariant-loop-mark l = (l.count ≡ length (wants_among l.fn.marks l.mark-index)) × (l.count ≤ l.mark-index)
