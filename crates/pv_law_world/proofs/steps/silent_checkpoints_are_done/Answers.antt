-- The lemma, as the law of an empty function.
use Rattle.pv_law_world.proofs.CheckpointLemmas.{checkpoint-counted}
use Rattle.pv_law_world.proofs.steps.silent_checkpoints_are_done.Goals as goal

pub returns : goal.returns
returns c = λ setup world n within silent. checkpoint-counted setup world n within silent
