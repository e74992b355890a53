-- The text so far is that of the literals so far.
use Rattle.std.proofs.Common.{◌≡◌, ◌++◌, take}
use Rattle.pv_protocol.specs.LineText.{literal_text, spaced}
use Rattle.pv_report.proofs.cases.push_literals.Given as goal

abbrev pub invariant-loop-literal : goal.invariant-loop-literal
invariant-loop-literal l = l.text.items ≡ l.initial.text.items ++ spaced literal_text (take l.literal-index l.literals)
