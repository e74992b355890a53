-- The lemma, as the law of an empty function.
use Rattle.pv_law_values.proofs.RecordsMore.{known-more}
use Rattle.pv_law_values.proofs.records.outcomes_stay.Goals as goal

pub returns : goal.returns
returns c = known-more
