-- The lemma, as the law of an empty function.
use Rattle.pv_law_programs.proofs.AlikeRows as lemmas
use Rattle.pv_law_programs.proofs.effects.own_rows_alone.Goals as goal

pub returns : goal.returns
returns c = lemmas.own_rows_alone
