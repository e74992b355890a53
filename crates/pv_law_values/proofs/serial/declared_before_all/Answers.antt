-- The lemma, as the law of an empty function.
use Rattle.pv_law_values.proofs.SerialLemmas.{value-declared}
use Rattle.pv_law_values.proofs.serial.declared_before_all.Goals as goal

pub returns : goal.returns
returns c = λ catalog item. value-declared catalog item
