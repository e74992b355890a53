use Rattle.pv_law_world.proofs.GrowthLemmas.{transition-grown}
use Rattle.pv_law_world.proofs.steps.transition_adds_records.Goals as goal

pub returns : goal.returns
returns c setup world event n = (transition-grown setup world event).records n
