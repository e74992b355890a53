-- The lemma on what entries have taken.
use Rattle.pv_law_traces.proofs.TakenRanges.{run-taken}
use Rattle.pv_law_traces.proofs.entries_take_few.Goals as goal

pub returns : goal.returns
returns c setup events fine = run-taken setup fine events
