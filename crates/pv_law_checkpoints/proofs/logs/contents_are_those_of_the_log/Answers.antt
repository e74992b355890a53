-- The lemmas, as the law of an empty function.
use Rattle.pv_law_checkpoints.proofs.ContentsLemmas.{log_contents_of-is, log_contents_of-log}
use Rattle.pv_law_checkpoints.proofs.logs.contents_are_those_of_the_log.Goals as goal

pub returns : goal.returns
returns c = λ contents bytes. (log_contents_of-log contents bytes, log_contents_of-is contents bytes)
