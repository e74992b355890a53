-- The lemma, as the law of an empty function.
use Rattle.pv_law_values.proofs.ChoiceLemmas.{choice-agree}
use Rattle.pv_law_values.proofs.assignments.known_outcomes_part_nothing.Goals as goal

pub returns : goal.returns
returns c = λ records set a b agree. choice-agree records set a b agree
