-- The lemma, as the law of an empty function.
use Rattle.pv_law_step.proofs.ComputedLemmas.{reply-canonical, reply-value}
use Rattle.pv_law_step.proofs.values.replies_are_computed.Goals as goal

pub returns : goal.returns
returns c = record { canonical = reply-canonical; values = reply-value }
