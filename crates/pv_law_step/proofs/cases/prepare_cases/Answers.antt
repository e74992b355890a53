-- The lemma, as the law of an empty function.
use Rattle.pv_law_step.proofs.StepCases.{prepare-case}
use Rattle.pv_law_step.proofs.cases.prepare_cases.Goals as goal

pub returns : goal.returns
returns c = prepare-case
