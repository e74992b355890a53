-- The lemma, as the law of an empty function.
use Rattle.pv_law_checkpoints.proofs.OneAnswer.{one_log}
use Rattle.pv_law_checkpoints.proofs.logs.one_log.Goals as goal

pub returns : goal.returns
returns c = λ bytes. one_log bytes
