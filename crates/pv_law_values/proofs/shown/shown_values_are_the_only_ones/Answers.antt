-- The lemma, as the law of an empty function.
use Rattle.pv_law_values.proofs.ShownMore.{shown-only}
use Rattle.pv_law_values.proofs.shown.shown_values_are_the_only_ones.Goals as goal

pub returns : goal.returns
returns c = shown-only
