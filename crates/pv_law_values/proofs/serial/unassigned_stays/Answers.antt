-- The lemma, as the law of an empty function.
use Rattle.pv_law_values.proofs.SerialLemmas.{serial-stays}
use Rattle.pv_law_values.proofs.serial.unassigned_stays.Goals as goal

pub returns : goal.returns
returns c = λ rows order a item none. serial-stays rows order a item none
