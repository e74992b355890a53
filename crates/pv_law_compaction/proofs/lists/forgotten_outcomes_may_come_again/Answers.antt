-- The lemma, as the law of an empty function.
use Rattle.pv_law_compaction.proofs.MoreLemmas.{again-stands}
use Rattle.pv_law_compaction.proofs.lists.forgotten_outcomes_may_come_again.Goals as goal

pub returns : goal.returns
returns c = λ limit catalog site kept all txn outcome stands told. again-stands limit catalog site kept all stands txn outcome told
