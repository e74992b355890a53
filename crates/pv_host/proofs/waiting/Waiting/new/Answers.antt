use Rattle.pv_host.proofs.WaitingLemmas.{nothing-waits}
use Rattle.pv_host.proofs.waiting.Waiting.new.Goals as goal

pub invariant_of-result : goal.invariant_of-result
invariant_of-result c = (nothing-waits (record { bytes = c.new.result; frozen = 0 }) c.new.ensures.items).good

pub returns-clause-asked : goal.returns-clause-asked
returns-clause-asked c = (nothing-waits (record { bytes = c.new.result; frozen = 0 }) c.new.ensures.items).asked_is

pub returns-clause-pending : goal.returns-clause-pending
returns-clause-pending c = (nothing-waits (record { bytes = c.new.result; frozen = 0 }) c.new.ensures.items).pending_is
