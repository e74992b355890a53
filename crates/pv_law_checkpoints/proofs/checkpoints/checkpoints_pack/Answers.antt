-- The lemmas, as the law of an empty function.
use Rattle.pv_law_checkpoints.proofs.CheckpointLemmas.{packs}
use Rattle.pv_law_checkpoints.proofs.checkpoints.checkpoints_pack.Goals as goal

pub returns : goal.returns
returns c = λ at place packed later given bytes next. packs at place packed later given bytes next
