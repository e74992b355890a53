-- The lemma, as the law of an empty function.
use Rattle.pv_law_step.proofs.StepCases.{granted-case}
use Rattle.pv_law_step.proofs.cases.granted_cases.Goals as goal

pub returns : goal.returns
returns c = granted-case
