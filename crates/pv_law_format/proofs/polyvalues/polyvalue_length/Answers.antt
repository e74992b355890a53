-- The lemma, as the law of an empty function.
use Rattle.pv_law_format.proofs.LengthLemmas as lemmas
use Rattle.pv_law_format.proofs.polyvalues.polyvalue_length.Goals as goal

pub returns : goal.returns
returns c = λ cases bytes s. lemmas.polyvalue-length cases bytes s
