-- The lemma on texts.
use Rattle.pv_law_schedules.proofs.OneScheduleLemmas as lemmas
use Rattle.pv_law_schedules.proofs.texts.one_live_script.Goals as goal

pub returns : goal.returns
returns c = λ text s t is also. lemmas.one_live_script text s t is also
