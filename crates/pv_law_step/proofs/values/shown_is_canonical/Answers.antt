-- The lemma, as the law of an empty function.
use Rattle.pv_law_step.proofs.ShownLemmas.{shown-canonical}
use Rattle.pv_law_step.proofs.values.shown_is_canonical.Goals as goal

pub returns : goal.returns
returns c = λ catalog records item. shown-canonical catalog records records item
