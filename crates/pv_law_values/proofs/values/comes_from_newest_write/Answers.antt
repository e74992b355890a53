-- The lemma, as the law of an empty function.
use Rattle.pv_law_values.proofs.NewestLemmas.{item-comes-from}
use Rattle.pv_law_values.proofs.values.comes_from_newest_write.Goals as goal

pub returns : goal.returns
returns c = λ catalog records item a heeds. item-comes-from catalog records item a heeds
