-- The marks so far.
use Rattle.std.proofs.Common.{◌≡◌}
use Rattle.pv_quorum_run.proofs.MarkLemmas.{marks_to}
use Rattle.pv_quorum_run.proofs.mail.drop_marks.Given as goal

abbrev pub invariant-loop-number : goal.invariant-loop-number
invariant-loop-number l = l.fresh ≡ marks_to l.decider l.number l.sent l.fn.fresh
