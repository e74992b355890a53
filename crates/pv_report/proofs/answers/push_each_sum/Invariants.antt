-- The text so far is that of the sums so far.
use Rattle.std.proofs.Common.{◌≡◌, ◌++◌, take}
use Rattle.std.specs.Fmt.{signed_decimal}
use Rattle.pv_protocol.specs.LineText.{spaced}
use Rattle.pv_report.proofs.answers.push_each_sum.Given as goal

abbrev pub invariant-loop-sum : goal.invariant-loop-sum
invariant-loop-sum l = l.text.items ≡ l.initial.text.items ++ spaced signed_decimal (take l.sum-index l.sums)
