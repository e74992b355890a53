-- The lemma, as the law of an empty function.
use Rattle.pv_law_format.proofs.OldLengths as lemmas
use Rattle.pv_law_format.proofs.records.read_records_are_longer.Goals as goal

pub returns : goal.returns
returns c = λ entry bytes s. lemmas.read-between entry bytes s
