-- The lemma, as the law of an empty function.
use Rattle.pv_law_values.proofs.RecordsMore.{is_prepared-more}
use Rattle.pv_law_values.proofs.records.promises_stay.Goals as goal

pub returns : goal.returns
returns c = is_prepared-more
