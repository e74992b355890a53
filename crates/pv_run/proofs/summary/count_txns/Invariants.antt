-- What is counted so far is the count of the lines so far.
use Rattle.std.proofs.Common.{◌≡◌, ◌≤◌, map, take}
use Rattle.pv_script.specs.LineView.{line_of}
use Rattle.pv_run.specs.Summary.{count, begins_txn}
use Rattle.pv_run.proofs.summary.count_txns.Given as goal

abbrev pub invariant-loop-line : goal.invariant-loop-line
invariant-loop-line l = (l.begun ≡ count begins_txn (take l.line-index (map line_of l.lines))) × (l.begun ≤ l.line-index)
