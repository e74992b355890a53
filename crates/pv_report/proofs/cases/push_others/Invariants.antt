-- The text so far is that of the cases so far.
use Rattle.std.proofs.Common.{◌≡◌, ◌++◌, take}
use Rattle.std.specs.Prelude.{codes, flat_map}
use Rattle.pv_protocol.specs.LineText.{case_text}
use Rattle.pv_report.proofs.cases.push_others.Given as goal

abbrev pub invariant-loop-case : goal.invariant-loop-case
invariant-loop-case l = l.text.items ≡ l.initial.text.items ++ flat_map (λ case. codes " ; " ++ case_text case) (take l.case-index l.cases)
