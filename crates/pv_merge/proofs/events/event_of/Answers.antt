use Rattle.std.proofs.Common.{subst}
use Rattle.pv_merge.proofs.events.event_of.Goals as goal
use Rattle.pv_merge.specs.Moments.{IsPlanned}

pub returns-in-Request-clause-plan : goal.returns-in-Request-clause-plan
returns-in-Request-clause-plan c = λ catalog planned. c.submit.ensures.plan catalog (subst (IsPlanned catalog) c.in-Request.is planned)
