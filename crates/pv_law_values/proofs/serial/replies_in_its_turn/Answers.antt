-- The lemma, as the law of an empty function.
use Rattle.pv_law_values.proofs.SerialLemmas.{reply-at}
use Rattle.pv_law_values.proofs.serial.replies_in_its_turn.Goals as goal

pub returns : goal.returns
returns c = λ rows front entry rest a others committed. reply-at rows front entry rest a others committed
