-- The lemma, as the law of an empty function.
use Rattle.pv_law_step.proofs.StepCases.{lock-case}
use Rattle.pv_law_step.proofs.cases.lock_cases.Goals as goal

pub returns : goal.returns
returns c = lock-case
