-- The lemma, as the law of an empty function.
use Rattle.pv_law_programs.proofs.ProgramLemmas as lemmas
use Rattle.pv_law_programs.proofs.effects.decline_leaves_rows.Goals as goal

pub returns : goal.returns
returns c = lemmas.decline_leaves_rows
