-- The lemma, as the law of an empty function.
use Rattle.pv_law_step.proofs.StepCases.{denied-case}
use Rattle.pv_law_step.proofs.cases.denied_cases.Goals as goal

pub returns : goal.returns
returns c = denied-case
