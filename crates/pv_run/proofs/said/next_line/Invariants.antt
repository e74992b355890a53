-- No line that is passed counts.
use Rattle.std.proofs.Common.{◌≡◌, ◌≤◌, length}
use Rattle.pv_model.specs.Schedule.{significant}
use Rattle.pv_run.proofs.said.next_line.Given as goal

abbrev pub invariant-loop-rest : goal.invariant-loop-rest
invariant-loop-rest l = (significant l.text ≡ significant l.rest) × (length l.rest ≤ length l.text)

abbrev pub decreases-loop-rest : goal.decreases-loop-rest
decreases-loop-rest l = length l.rest
