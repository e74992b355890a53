use Rattle.pv_law_world.proofs.TransitionLemmas.{run-marked}
use Rattle.pv_law_world.proofs.pumps.messages_are_marked.Goals as goal

pub returns : goal.returns
returns c setup events = run-marked setup events
