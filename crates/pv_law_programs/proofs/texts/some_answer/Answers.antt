-- The lemma on texts.
use Rattle.pv_law_programs.proofs.SomeAnswer as lemmas
use Rattle.pv_law_programs.proofs.texts.some_answer.Goals as goal

pub returns : goal.returns
returns c = λ catalog text. lemmas.some_answer catalog text
