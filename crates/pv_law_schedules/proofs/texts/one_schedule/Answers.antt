-- The lemma on texts.
use Rattle.pv_law_schedules.proofs.OneScheduleLemmas as lemmas
use Rattle.pv_law_schedules.proofs.texts.one_schedule.Goals as goal

pub returns : goal.returns
returns c = λ text s t is also. lemmas.one_schedule text s t is also
