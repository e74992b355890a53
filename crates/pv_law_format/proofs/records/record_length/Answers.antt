-- The lemma, as the law of an empty function.
use Rattle.pv_law_format.proofs.LengthLemmas as lemmas
use Rattle.pv_law_format.proofs.records.record_length.Goals as goal

pub returns : goal.returns
returns c = λ entry bytes s. lemmas.record-length entry bytes s
