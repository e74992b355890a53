-- The lemma, as the law of an empty function.
use Rattle.pv_law_values.proofs.ChoiceLemmas.{commits-among}
use Rattle.pv_law_values.proofs.assignments.cut_is_of_the_list.Goals as goal

pub returns : goal.returns
returns c = λ txns a t. commits-among txns a t
