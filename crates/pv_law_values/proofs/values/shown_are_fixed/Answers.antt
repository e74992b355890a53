-- The lemma, as the law of an empty function.
use Rattle.pv_law_values.proofs.SupportLemmas.{shown-fixed}
use Rattle.pv_law_values.proofs.values.shown_are_fixed.Goals as goal

pub returns : goal.returns
returns c = λ set catalog records item all a b agree. shown-fixed set catalog records item all a b agree
