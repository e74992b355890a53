use Rattle.pv_law_outbox.specs.Runs.{releases, has_none}
use Rattle.pv_law_outbox.proofs.RunLemmas.{at-event, kept-in}
use Rattle.pv_law_outbox.proofs.only_ready_outputs_are_released.Goals as goal

pub returns-clause-released : goal.returns-clause-released
returns-clause-released c old before output since new run = let at = at-event old before (releases output) since new run in (at.mid, at.run, at.happens.may)

pub returns-clause-none : goal.returns-clause-none
returns-clause-none c old before since new run = let at = at-event old before has_none since new run in (at.mid, at.run, at.happens.0)

pub returns-clause-certain : goal.returns-clause-certain
returns-clause-certain c old events new run when certain assignment agrees =
    certain assignment (λ txn outcome is. agrees txn outcome ((kept-in old events new run).outcomes txn outcome is))
