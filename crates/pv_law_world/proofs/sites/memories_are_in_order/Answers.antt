use Rattle.pv_law_world.proofs.EpochLemmas.{IsOrdered, order-kept}
use Rattle.pv_law_world.proofs.SiteLemmas.{up-run, up-any-run}
use Rattle.pv_law_world.proofs.sites.memories_are_in_order.Goals as goal

pub returns-clause-run : goal.returns-clause-run
returns-clause-run c setup events = up-run setup IsOrdered (order-kept setup) events

pub returns-clause-faults : goal.returns-clause-faults
returns-clause-faults c setup transitions run = up-any-run setup IsOrdered (order-kept setup) transitions run
