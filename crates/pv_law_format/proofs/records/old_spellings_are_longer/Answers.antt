-- The lemma, as the law of an empty function.
use Rattle.pv_law_format.proofs.OldLengths as lemmas
use Rattle.pv_law_format.proofs.records.old_spellings_are_longer.Goals as goal

pub returns : goal.returns
returns c = λ entry bytes old s t. lemmas.old-longer entry bytes old s t
