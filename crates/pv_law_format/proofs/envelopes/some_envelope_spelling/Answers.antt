-- The lemma, as the law of an empty function.
use Rattle.pv_law_format.proofs.RangeLemmas as lemmas
use Rattle.pv_law_format.proofs.envelopes.some_envelope_spelling.Goals as goal

pub returns : goal.returns
returns c = λ envelope. (λ found. lemmas.envelope-from envelope found.0 found.1, lemmas.envelope-spelled envelope)
