-- What is found so far is the latest of the lines so far.
use Rattle.std.proofs.Common.{◌≡◌, map, take, None}
use Rattle.pv_script.specs.LineView.{line_of}
use Rattle.pv_run.specs.Summary.{latest, or_zero, open_count}
use Rattle.pv_run.proofs.summary.last_open.Given as goal

abbrev pub invariant-loop-line : goal.invariant-loop-line
invariant-loop-line l = l.open ≡ or_zero (latest open_count None (take l.line-index (map line_of l.lines)))
