-- The lemma on what an event prints.
use Rattle.pv_law_traces.proofs.EventRanges.{transition-within}
use Rattle.pv_law_traces.proofs.transitions_are_within.Goals as goal

pub returns : goal.returns
returns c setup world event setup_fine fine printable good numbered = transition-within setup setup_fine world fine printable event good numbered
