-- The lemma, as the law of an empty function.
use Rattle.pv_law_values.proofs.NewestLemmas.{item-more}
use Rattle.pv_law_values.proofs.values.one_more_record.Goals as goal

pub returns : goal.returns
returns c = λ catalog records more item a heeds. item-more catalog records more item a heeds
