-- The lemma, as the law of an empty function.
use Rattle.pv_law_format.proofs.AnswerLemmas as lemmas
use Rattle.pv_law_format.proofs.polyvalues.one_polyvalue_answer.Goals as goal

pub returns : goal.returns
returns c = λ bytes place all. lemmas.one-polyvalue-answer bytes place all
