use Rattle.pv_law_acts.proofs.ActSteps.{act-step}
use Rattle.pv_law_acts.proofs.acts.acts_are_steps.Goals as goal

pub returns : goal.returns
returns c setup world after act = act-step setup world after act
