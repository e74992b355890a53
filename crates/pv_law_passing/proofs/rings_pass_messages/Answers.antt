use Rattle.pv_law_passing.proofs.RingLemmas.{pass-messages}
use Rattle.pv_law_passing.proofs.rings_pass_messages.Goals as goal

pub returns-clause-pass : goal.returns-clause-pass
returns-clause-pass c setup histories rings go = pass-messages setup histories rings go

pub returns-clause-fit : goal.returns-clause-fit
returns-clause-fit c setup histories rings go = c.passed_messages_fit_together.ensures setup histories (pass-messages setup histories rings go)
