use Rattle.pv_law_world.proofs.TransitionLemmas.{run-transitions}
use Rattle.pv_law_world.proofs.runs.run_is_its_transitions.Goals as goal

pub returns : goal.returns
returns c setup world events = run-transitions setup world events
