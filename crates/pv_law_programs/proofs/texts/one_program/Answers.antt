-- The lemma on texts.
use Rattle.pv_law_programs.proofs.ProgramTextLemmas as lemmas
use Rattle.pv_law_programs.proofs.texts.one_program.Goals as goal

pub returns : goal.returns
returns c = λ catalog text p q a b. lemmas.one_program_text catalog text p q a b
