-- The lemma, as the law of an empty function.
use Rattle.pv_law_step.proofs.ComputedLemmas.{new-canonical, new-value}
use Rattle.pv_law_step.proofs.values.new_values_are_computed.Goals as goal

pub returns : goal.returns
returns c = record { canonical = new-canonical; values = new-value }
