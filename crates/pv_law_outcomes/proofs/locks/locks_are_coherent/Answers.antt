use Rattle.pv_law_outcomes.proofs.CoherentLemmas.{always-sound}
use Rattle.pv_law_outcomes.proofs.locks.locks_are_coherent.Goals as goal

pub returns : goal.returns
returns c setup world acts = (always-sound setup world acts).right
