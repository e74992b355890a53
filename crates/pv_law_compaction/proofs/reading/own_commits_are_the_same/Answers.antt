-- The lemma, as the law of an empty function.
use Rattle.pv_law_compaction.proofs.ReadLemmas.{yes-same}
use Rattle.pv_law_compaction.proofs.reading.own_commits_are_the_same.Goals as goal

pub returns : goal.returns
returns c = λ limit catalog site kept all stands consistent t given own. yes-same limit catalog site kept all stands consistent t given own
