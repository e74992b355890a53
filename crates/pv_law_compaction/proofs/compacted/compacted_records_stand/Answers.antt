-- The lemma, as the law of an empty function.
use Rattle.pv_law_compaction.proofs.StandingLemmas.{compact-stands}
use Rattle.pv_law_compaction.proofs.compacted.compacted_records_stand.Goals as goal

pub returns : goal.returns
returns c = λ limit catalog site records narrow depends. compact-stands limit catalog site records narrow depends
