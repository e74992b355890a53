-- The lemma, as the law of an empty function.
use Rattle.pv_law_values.proofs.SerialLemmas.{serial-through}
use Rattle.pv_law_values.proofs.serial.runs_in_its_turn.Goals as goal

pub returns : goal.returns
returns c = λ rows front entry a committed. serial-through rows front entry a committed
