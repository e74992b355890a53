use Rattle.std.proofs.Common.{◌≤◌, ◌-◌, ◌+◌, length}
use Rattle.pv_handle.proofs.opening.journal_length.Given as goal

abbrev pub invariant-loop-place : goal.invariant-loop-place
invariant-loop-place l = l.place ≤ length l.file + 8

abbrev pub decreases-loop-place : goal.decreases-loop-place
decreases-loop-place l = length l.file - l.place
