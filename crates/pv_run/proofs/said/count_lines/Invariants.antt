-- The lines so far and those that are left are all.
use Rattle.std.proofs.Common.{◌≡◌, ◌+◌, ◌≤◌, length}
use Rattle.pv_model.specs.Schedule.{significant}
use Rattle.pv_run.proofs.said.count_lines.Given as goal

abbrev pub invariant-loop-later : goal.invariant-loop-later
invariant-loop-later l = (l.count + length (significant l.rest) ≡ length (significant l.text)) × (l.count + length l.rest ≤ length l.text)

abbrev pub decreases-loop-later : goal.decreases-loop-later
decreases-loop-later l = length l.rest
