-- The lemma, as the law of an empty function.
use Rattle.pv_law_step.proofs.WidthSteps.{step-narrow}
use Rattle.pv_law_step.proofs.width.steps_keep_width.Goals as goal

pub returns : goal.returns
returns c = step-narrow
