-- The lemma, as the law of an empty function.
use Rattle.pv_law_values.proofs.SerialLemmas.{serial-append}
use Rattle.pv_law_values.proofs.serial.run_in_two.Goals as goal

pub returns : goal.returns
returns c = λ rows front rest a. serial-append rows front rest a
