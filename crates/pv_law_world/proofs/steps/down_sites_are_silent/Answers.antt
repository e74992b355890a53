use Rattle.pv_law_world.proofs.GrowthLemmas.{transition-grown}
use Rattle.pv_law_world.proofs.steps.down_sites_are_silent.Goals as goal

pub returns : goal.returns
returns c setup world event = (transition-grown setup world event).sent
