-- What is left has the same behind its blanks.
use Rattle.std.proofs.Common.{◌≡◌, length}
use Rattle.pv_model.specs.LineForms.{after_blanks}
use Rattle.pv_run.proofs.said.after_blanks.Given as goal

abbrev pub invariant-loop-rest : goal.invariant-loop-rest
invariant-loop-rest l = after_blanks l.rest ≡ after_blanks l.bytes

abbrev pub decreases-loop-rest : goal.decreases-loop-rest
decreases-loop-rest l = length l.rest
