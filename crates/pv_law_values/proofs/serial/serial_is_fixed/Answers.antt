-- The lemma, as the law of an empty function.
use Rattle.pv_law_values.proofs.SerialLemmas.{serial-alike}
use Rattle.pv_law_values.proofs.serial.serial_is_fixed.Goals as goal

pub returns : goal.returns
returns c = λ rows order a b agree. serial-alike rows order a b agree
