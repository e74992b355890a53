-- The lemma, as the law of an empty function.
use Rattle.pv_law_compaction.proofs.ReadLemmas.{prepared-same}
use Rattle.pv_law_compaction.proofs.reading.promises_are_the_same.Goals as goal

pub returns : goal.returns
returns c = λ limit catalog site kept all stands t given unknown. prepared-same limit catalog site kept all stands t given unknown
