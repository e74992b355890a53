-- The lemma on what a step reports.
use Rattle.pv_law_traces.proofs.NoteRanges.{notes-within}
use Rattle.pv_law_traces.proofs.notes_are_within.Goals as goal

pub returns : goal.returns
returns c sites here input sound few good = notes-within sites here sound few input good
