-- The lemma, as the law of an empty function.
use Rattle.pv_law_step.proofs.Appended.{steady}
use Rattle.pv_law_step.proofs.steps.numbers_rise.Goals as goal

pub returns : goal.returns
returns c = λ here input. (steady here input).rises
