-- The lemma, as the law of an empty function.
use Rattle.pv_law_checkpoints.proofs.CheckpointLemmas.{leads_on}
use Rattle.pv_law_checkpoints.proofs.checkpoints.parts_lead_on.Goals as goal

pub returns-clause-lead : goal.returns-clause-lead
returns-clause-lead c = λ part at place packed later given bytes next. leads_on part at place packed later given bytes next
