-- The lemma, as the law of an empty function.
use Rattle.pv_law_compaction.proofs.ReadLemmas.{shown-same}
use Rattle.pv_law_compaction.proofs.reading.shown_values_are_the_same.Goals as goal

pub returns : goal.returns
returns c = λ limit catalog site kept all stands item home a heeds. shown-same limit catalog site kept all stands item home a heeds
