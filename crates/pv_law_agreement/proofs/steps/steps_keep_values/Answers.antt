-- The lemma, as the law of an empty function.
use Rattle.pv_law_agreement.proofs.ValueSteps.{serialized-kept}
use Rattle.pv_law_agreement.proofs.steps.steps_keep_values.Goals as goal

pub returns : goal.returns
returns c = λ setup w v step gw gv falls supported sequence before. serialized-kept setup w v step gw gv falls supported sequence before
