-- The lemma, as the law of an empty function.
use Rattle.pv_law_step.proofs.ShownLemmas.{shown-value}
use Rattle.pv_law_step.proofs.values.shown_has_the_value.Goals as goal

pub returns : goal.returns
returns c = λ catalog records item. shown-value catalog records records item
