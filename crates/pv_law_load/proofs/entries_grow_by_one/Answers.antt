use Rattle.pv_law_load.proofs.EntryLemmas.{entries-grow}
use Rattle.pv_law_load.proofs.entries_grow_by_one.Goals as goal

pub returns : goal.returns
returns c here input = entries-grow here input
