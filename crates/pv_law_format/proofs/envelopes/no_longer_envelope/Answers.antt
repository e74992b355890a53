-- The lemma, as the law of an empty function.
use Rattle.pv_format.specs.MessageSpelling.{SpellsEnvelope}
use Rattle.pv_law_format.proofs.AnswerLemmas as lemmas
use Rattle.pv_law_format.proofs.EnvelopeCode.{envelope-read}
use Rattle.pv_law_format.proofs.envelopes.no_longer_envelope.Goals as goal

pub returns : goal.returns
returns c = λ envelope other bytes rest s t. lemmas.no-prefix SpellsEnvelope envelope-read envelope other bytes rest s t
