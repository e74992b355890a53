-- The lemma, as the law of an empty function.
use Rattle.pv_law_step.proofs.StepCases.{no-case}
use Rattle.pv_law_step.proofs.cases.no_cases.Goals as goal

pub returns : goal.returns
returns c = no-case
