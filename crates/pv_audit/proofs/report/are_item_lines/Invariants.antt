-- Each line so far is the one of its item.
use Rattle.std.proofs.Common.{◌≡◌, ℕ, ◌<◌, get_or, map}
use Rattle.pv_audit.specs.Traces.{IsItemLine}
use Rattle.pv_protocol.specs.Lines.{Line}
use Rattle.pv_script.specs.LineView.{line_of}
use Rattle.pv_audit.proofs.report.are_item_lines.Given as goal

abbrev pub invariant-loop-line : goal.invariant-loop-line
invariant-loop-line l = (l.next ≡ l.line-index) × ((i : ℕ) → i < l.line-index → IsItemLine i (get_or (map line_of l.lines) i Line.end))
