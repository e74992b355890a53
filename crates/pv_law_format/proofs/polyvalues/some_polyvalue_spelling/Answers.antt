-- The lemma, as the law of an empty function.
use Rattle.pv_law_format.proofs.RangeLemmas as lemmas
use Rattle.pv_law_format.proofs.polyvalues.some_polyvalue_spelling.Goals as goal

pub returns : goal.returns
returns c = λ cases. (λ found. lemmas.polyvalue-from cases found.0 found.1, lemmas.polyvalue-spelled cases)
