-- The lemma, as the law of an empty function.
use Rattle.pv_law_step.proofs.StepCases.{ask-case}
use Rattle.pv_law_step.proofs.cases.ask_cases.Goals as goal

pub returns : goal.returns
returns c = ask-case
