-- The lemma, as the law of an empty function.
use Rattle.pv_law_programs.proofs.ProgramLemmas as lemmas
use Rattle.pv_law_programs.proofs.effects.unassigned_keeps_value.Goals as goal

pub returns : goal.returns
returns c = lemmas.unassigned_keeps_value
