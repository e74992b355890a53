-- The lemma on texts.
use Rattle.pv_law_schedules.proofs.OneScheduleLemmas as lemmas
use Rattle.pv_law_schedules.proofs.texts.no_fault.Goals as goal

pub returns : goal.returns
returns c = λ text schedule n a is fault. lemmas.no_fault text schedule n a is fault
