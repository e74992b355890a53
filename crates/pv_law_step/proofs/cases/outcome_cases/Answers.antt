-- The lemma, as the law of an empty function.
use Rattle.pv_law_step.proofs.StepCases.{outcome-case}
use Rattle.pv_law_step.proofs.cases.outcome_cases.Goals as goal

pub returns : goal.returns
returns c = outcome-case
