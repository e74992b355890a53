-- The lemma, as the law of an empty function.
use Rattle.pv_law_format.proofs.RangeLemmas as lemmas
use Rattle.pv_law_format.proofs.records.some_record_spelling.Goals as goal

pub returns : goal.returns
returns c = λ entry. (λ found. lemmas.record-from entry found.0 found.1, lemmas.record-spelled entry)
