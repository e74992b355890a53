-- The lemma, as the law of an empty function.
use Rattle.pv_format.specs.MessageSpelling.{SpellsEnvelope}
use Rattle.pv_law_format.proofs.AnswerLemmas as lemmas
use Rattle.pv_law_format.proofs.EnvelopeCode.{envelope-read}
use Rattle.pv_law_format.proofs.envelopes.one_envelope.Goals as goal

pub returns : goal.returns
returns c = λ envelope other bytes s t. lemmas.one-value SpellsEnvelope envelope-read bytes envelope other s t
