-- The lemma, as the law of an empty function.
use Rattle.pv_law_step.proofs.SoundSteps.{safe}
use Rattle.pv_law_step.proofs.ranges.sends_are_in_range.Goals as goal

pub returns : goal.returns
returns c = λ sites here input sound is. (safe sites here sound input is).sends
