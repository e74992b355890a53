-- What is left has the same before its blanks.
use Rattle.std.proofs.Common.{◌≡◌, length}
use Rattle.pv_model.specs.LineForms.{before_blanks}
use Rattle.pv_run.proofs.said.before_blanks.Given as goal

abbrev pub invariant-loop-rest : goal.invariant-loop-rest
invariant-loop-rest l = before_blanks l.rest ≡ before_blanks l.bytes

abbrev pub decreases-loop-rest : goal.decreases-loop-rest
decreases-loop-rest l = length l.rest
