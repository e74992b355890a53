-- The lemmas, as the law of an empty function.
use Rattle.pv_law_checkpoints.proofs.WorkedLemmas.{formatted_is}
use Rattle.pv_law_checkpoints.proofs.logs.formatted_is_empty.Goals as goal

pub returns-clause-log : goal.returns-clause-log
returns-clause-log c = formatted_is.0

pub returns-clause-stands : goal.returns-clause-stands
returns-clause-stands c = formatted_is.1

pub returns-clause-length : goal.returns-clause-length
returns-clause-length c = formatted_is.2
