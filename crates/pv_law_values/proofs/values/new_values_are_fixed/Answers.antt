-- The lemma, as the law of an empty function.
use Rattle.pv_law_values.proofs.SupportLemmas.{new-fixed}
use Rattle.pv_law_values.proofs.values.new_values_are_fixed.Goals as goal

pub returns : goal.returns
returns c = λ set records entry item all a b agree. new-fixed set records entry all item a b agree
