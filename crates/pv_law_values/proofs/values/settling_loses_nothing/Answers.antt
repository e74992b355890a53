-- The lemma, as the law of an empty function.
use Rattle.pv_format.specs.Record.{outcome_known}
use Rattle.pv_law_values.proofs.NewestLemmas.{item-more}
use Rattle.pv_law_values.proofs.values.settling_loses_nothing.Goals as goal

pub returns : goal.returns
returns c = λ catalog records txn outcome item a heeds. item-more catalog records (outcome_known txn outcome) item a heeds
