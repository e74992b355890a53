-- The lemma, as the law of an empty function.
use Rattle.pv_law_programs.proofs.AlikeRows as lemmas
use Rattle.pv_law_programs.proofs.effects.order_of_rows_is_free.Goals as goal

pub returns : goal.returns
returns c = lemmas.order_of_rows_is_free
