-- The lemma that no other plan is.
use Rattle.pv_law_programs.proofs.PlanLemmas as lemmas
use Rattle.pv_law_programs.proofs.items.one_plan.Goals as goal

pub returns : goal.returns
returns c = λ program items parts is. lemmas.one_plan program items parts is
