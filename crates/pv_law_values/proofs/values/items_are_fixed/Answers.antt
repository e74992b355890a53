-- The lemma, as the law of an empty function.
use Rattle.pv_law_values.proofs.SupportLemmas.{item-fixed}
use Rattle.pv_law_values.proofs.values.items_are_fixed.Goals as goal

pub returns : goal.returns
returns c = λ set catalog records item all a b agree. item-fixed set catalog records item all a b agree
