-- The lemma, as the law of an empty function.
use Rattle.pv_law_checkpoints.proofs.CheckpointLemmas.{lies_apart}
use Rattle.pv_law_checkpoints.proofs.checkpoints.blocks_lie_apart.Goals as goal

pub returns : goal.returns
returns c = λ at place packed later given bytes next. lies_apart at place packed later given bytes next
