-- The lemma, as the law of an empty function.
use Rattle.pv_law_agreement.proofs.SupportSteps.{support-kept}
use Rattle.pv_law_agreement.proofs.steps.steps_keep_support.Goals as goal

pub returns : goal.returns
returns c = λ setup w v step grounds before. support-kept setup w v step grounds before
