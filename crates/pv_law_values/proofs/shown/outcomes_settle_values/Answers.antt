-- The lemma, as the law of an empty function.
use Rattle.pv_law_values.proofs.ShownMore.{shown-settled}
use Rattle.pv_law_values.proofs.shown.outcomes_settle_values.Goals as goal

pub returns : goal.returns
returns c = shown-settled
