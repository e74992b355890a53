-- The lemma, as the law of an empty function.
use Rattle.pv_law_format.proofs.EnvelopeCode as lemmas
use Rattle.pv_law_format.proofs.envelopes.one_envelope_spelling.Goals as goal

pub returns : goal.returns
returns c = λ envelope bytes others s t. lemmas.envelope-once envelope bytes others s t
