-- None of the marks so far is set.
use Rattle.pv_quorum_run.specs.Marks.{AreDone}
use Rattle.pv_quorum_run.proofs.mail.first_mark.Given as goal

abbrev pub invariant-loop-number : goal.invariant-loop-number
invariant-loop-number l = AreDone l.number l.marks
