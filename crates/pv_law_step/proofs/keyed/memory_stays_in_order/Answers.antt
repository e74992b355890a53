-- The lemma, as the law of an empty function.
use Rattle.pv_law_step.proofs.OrderLemmas.{stays-in-order}
use Rattle.pv_law_step.proofs.keyed.memory_stays_in_order.Goals as goal

pub returns : goal.returns
returns c = λ here input order. stays-in-order here order input
