-- The lemma on the computed plan.
use Rattle.pv_law_programs.proofs.PlanLemmas as lemmas
use Rattle.pv_law_programs.proofs.items.some_plan.Goals as goal

pub returns : goal.returns
returns c = λ program items known. lemmas.some_plan program items known
