-- The lemma on the orders of a run's worlds.
use Rattle.pv_law_traces.proofs.OrderRanges.{run-ordered}
use Rattle.pv_law_traces.proofs.orders_are_within.Goals as goal

pub returns : goal.returns
returns c setup events setup_fine fine = run-ordered setup setup_fine events fine
