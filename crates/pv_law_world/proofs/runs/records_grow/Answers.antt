use Rattle.pv_law_world.proofs.TransitionLemmas.{run-records}
use Rattle.pv_law_world.proofs.runs.records_grow.Goals as goal

pub returns : goal.returns
returns c setup world events n = run-records setup world events n
