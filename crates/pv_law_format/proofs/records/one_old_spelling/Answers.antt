-- The lemma, as the law of an empty function.
use Rattle.pv_law_format.proofs.RecordCode as lemmas
use Rattle.pv_law_format.proofs.records.one_old_spelling.Goals as goal

pub returns : goal.returns
returns c = λ entry bytes others s t. lemmas.old-once entry bytes others s t
