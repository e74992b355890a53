-- The lemma, as the law of an empty function.
use Rattle.pv_law_format.proofs.RangeLemmas as lemmas
use Rattle.pv_law_format.proofs.records.read_records_are_in_range.Goals as goal

pub returns : goal.returns
returns c = λ entry bytes s. lemmas.read-from entry bytes s
