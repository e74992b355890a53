-- The lemma, as the law of an empty function.
use Rattle.pv_law_agreement.proofs.SequenceSteps.{sequence-kept}
use Rattle.pv_law_agreement.proofs.steps.steps_keep_sequence.Goals as goal

pub returns : goal.returns
returns c = λ setup w v step grounds before. sequence-kept setup w v step grounds before
