-- The text so far is that of the lines so far.
use Rattle.std.proofs.Common.{◌≡◌, ◌++◌, map, take}
use Rattle.pv_protocol.specs.LineText.{text_of}
use Rattle.pv_script.specs.LineView.{line_of}
use Rattle.pv_transcript.proofs.parts.push_lines.Given as goal

abbrev pub invariant-loop-line : goal.invariant-loop-line
invariant-loop-line l = l.text.items ≡ l.initial.text.items ++ text_of l.catalog (map line_of (take l.line-index l.lines))
