-- The lemma, as the law of an empty function.
use Rattle.pv_law_step.proofs.KeyedLemmas.{of-without}
use Rattle.pv_law_step.proofs.keyed.one_less_is_gone.Goals as goal

pub returns : goal.returns
returns g c = of-without
