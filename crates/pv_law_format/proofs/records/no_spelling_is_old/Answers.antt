-- The lemma, as the law of an empty function.
use Rattle.pv_law_format.proofs.RecordCode as lemmas
use Rattle.pv_law_format.proofs.records.no_spelling_is_old.Goals as goal

pub returns : goal.returns
returns c = λ entry other bytes s t. lemmas.not-old entry other bytes s t
