-- The lemma, as the law of an empty function.
use Rattle.pv_law_step.proofs.StepCases.{submit-case}
use Rattle.pv_law_step.proofs.cases.request_cases.Goals as goal

pub returns : goal.returns
returns c = submit-case
