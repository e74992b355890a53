-- The lemma on texts.
use Rattle.pv_law_schedules.proofs.OneScheduleLemmas as lemmas
use Rattle.pv_law_schedules.proofs.texts.no_live_fault.Goals as goal

pub returns : goal.returns
returns c = λ text script n a is fault. lemmas.no_live_fault text script n a is fault
