-- The lemma, as the law of an empty function.
use Rattle.pv_law_step.proofs.KeyedLemmas.{of-with}
use Rattle.pv_law_step.proofs.keyed.one_more_is_found.Goals as goal

pub returns : goal.returns
returns g c = of-with
