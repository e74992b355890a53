-- The lemma, as the law of an empty function.
use Rattle.pv_law_format.proofs.AnswerLemmas as lemmas
use Rattle.pv_law_format.proofs.records.one_record.Goals as goal

pub returns : goal.returns
returns c = λ entry other bytes s t. lemmas.one-record bytes entry other s t
