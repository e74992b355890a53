-- The lemma, as the law of an empty function.
use Rattle.pv_law_step.proofs.StepCases.{yes-case}
use Rattle.pv_law_step.proofs.cases.yes_cases.Goals as goal

pub returns : goal.returns
returns c = yes-case
