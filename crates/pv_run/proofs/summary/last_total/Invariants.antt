-- The line so far is the latest total of the lines so far.
use Rattle.std.proofs.Common.{◌≡◌, map, take, None}
use Rattle.std.specs.Option.{option_map}
use Rattle.pv_script.specs.LineView.{line_of}
use Rattle.pv_run.specs.Summary.{latest, total_in}
use Rattle.pv_run.proofs.summary.last_total.Given as goal

abbrev pub invariant-loop-line : goal.invariant-loop-line
invariant-loop-line l = option_map (λ line. line_of line.now) l.last ≡ latest total_in None (take l.line-index (map line_of l.lines))
