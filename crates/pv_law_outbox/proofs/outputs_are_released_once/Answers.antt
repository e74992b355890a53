use Rattle.pv_law_outbox.proofs.RunLemmas.{gone-once, never-again}
use Rattle.pv_law_outbox.proofs.outputs_are_released_once.Goals as goal

pub returns-clause-once : goal.returns-clause-once
returns-clause-once c old events new run = gone-once old events new run

pub returns-clause-never_again : goal.returns-clause-never_again
returns-clause-never_again c old events new run output is = never-again old events new run output is
