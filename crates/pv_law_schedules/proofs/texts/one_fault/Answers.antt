-- The lemma on texts.
use Rattle.pv_law_schedules.proofs.OneScheduleLemmas as lemmas
use Rattle.pv_law_schedules.proofs.texts.one_fault.Goals as goal

pub returns : goal.returns
returns c = λ kind text m n a b is also. lemmas.one_fault kind text m n a b is also
