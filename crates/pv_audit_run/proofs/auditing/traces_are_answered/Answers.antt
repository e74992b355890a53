-- The text is a trace, of which nothing else is found.
use Rattle.pv_audit_run.proofs.AnswerLemmas.{traces-answered}
use Rattle.pv_audit_run.proofs.auditing.traces_are_answered.Goals as goal

pub returns : goal.returns
returns c = traces-answered c.no_fault_of_a_trace.ensures c.traces_of_runs_pass.ensures.trace c.traces_of_runs_pass.ensures.passes
