-- The lemma, as the law of an empty function.
use Rattle.pv_law_values.proofs.ChoiceLemmas.{choice-heeding}
use Rattle.pv_law_values.proofs.assignments.heeding_changes_nothing.Goals as goal

pub returns : goal.returns
returns c = λ records a heeds t. choice-heeding records a heeds t
