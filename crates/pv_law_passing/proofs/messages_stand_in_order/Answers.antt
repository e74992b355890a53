use Rattle.pv_law_passing.proofs.ComingLemmas.{come-in-order}
use Rattle.pv_law_passing.proofs.messages_stand_in_order.Goals as goal

pub returns : goal.returns
returns c from me history left taken sent comes alike = come-in-order from me history left taken sent comes alike
