-- The lemma, as the law of an empty function.
use Rattle.pv_ckpt.proofs.ArmedLemmas.{formats-unarmed}
use Rattle.pv_ckpt.proofs.memory.formatted_logs.Goals as goal

pub returns : goal.returns
returns c = λ old new empty settled unarmed unfired unread x formats. formats-unarmed old new empty settled unarmed unfired unread x formats
