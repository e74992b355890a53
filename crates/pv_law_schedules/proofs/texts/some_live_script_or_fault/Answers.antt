-- The lemma on texts.
use Rattle.pv_law_schedules.proofs.SomeScheduleLemmas as lemmas
use Rattle.pv_law_schedules.proofs.texts.some_live_script_or_fault.Goals as goal

pub returns : goal.returns
returns c = λ text. lemmas.some_live_script_or_fault text
