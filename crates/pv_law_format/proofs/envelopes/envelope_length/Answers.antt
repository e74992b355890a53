-- The lemma, as the law of an empty function.
use Rattle.pv_law_format.proofs.LengthLemmas as lemmas
use Rattle.pv_law_format.proofs.envelopes.envelope_length.Goals as goal

pub returns : goal.returns
returns c = λ envelope bytes s. lemmas.envelope-length envelope bytes s
