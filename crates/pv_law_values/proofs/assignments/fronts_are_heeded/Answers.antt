-- The lemma, as the law of an empty function.
use Rattle.pv_law_values.proofs.ChoiceLemmas.{heeds-front}
use Rattle.pv_law_values.proofs.assignments.fronts_are_heeded.Goals as goal

pub returns : goal.returns
returns c = λ records more a heeds. heeds-front records more a heeds
