-- The lemma, as the law of an empty function.
use Rattle.pv_law_format.proofs.AnswerLemmas as lemmas
use Rattle.pv_law_format.proofs.envelopes.one_envelope_answer.Goals as goal

pub returns : goal.returns
returns c = λ bytes all. lemmas.one-envelope-answer bytes all
