-- What is left has the same behind it.
use Rattle.std.proofs.Common.{◌≡◌, ◌≤◌, length}
use Rattle.pv_model.specs.LineForms.{after_word}
use Rattle.pv_script.proofs.program.after_word.Given as goal

abbrev pub invariant-loop-rest : goal.invariant-loop-rest
invariant-loop-rest l = (after_word l.rest ≡ after_word l.bytes) × (length l.rest ≤ length l.bytes)

abbrev pub decreases-loop-rest : goal.decreases-loop-rest
decreases-loop-rest l = length l.rest
