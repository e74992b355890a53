-- The lemma, as the law of an empty function.
use Rattle.pv_law_values.proofs.SupportLemmas.{reply-fixed}
use Rattle.pv_law_values.proofs.values.replies_are_fixed.Goals as goal

pub returns : goal.returns
returns c = λ set records entry all a b agree. reply-fixed set records entry all a b agree
