-- What is found so far is the latest of the lines so far.
use Rattle.std.proofs.Common.{◌≡◌, map, take, None}
use Rattle.pv_script.specs.LineView.{line_of}
use Rattle.pv_run.specs.Summary.{latest, or_zero, committed_count}
use Rattle.pv_run.proofs.summary.last_committed.Given as goal

abbrev pub invariant-loop-line : goal.invariant-loop-line
invariant-loop-line l = l.committed ≡ or_zero (latest committed_count None (take l.line-index (map line_of l.lines)))
