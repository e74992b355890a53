-- The lemma, as the law of an empty function.
use Rattle.pv_law_compaction.proofs.StandingLemmas.{itself-stands}
use Rattle.pv_law_compaction.proofs.lists.records_stand_for_themselves.Goals as goal

pub returns : goal.returns
returns c = λ limit catalog site records narrow depends consistent. itself-stands limit catalog site records narrow depends consistent
