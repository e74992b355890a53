-- By what one more record does to the outcomes and to the newest write.
use Rattle.std.proofs.Common.{[], ◌∷◌, ◌++◌, ap, ◌∙◌}
use Rattle.pv_base.specs.Assignment.{with_outcome}
use Rattle.pv_format.specs.Record.{outcome_known}
use Rattle.pv_law_step.proofs.OutcomeLemmas.{choice-more}
use Rattle.pv_law_step.proofs.WidthLemmas.{newest-more}
use Rattle.pv_law_step.proofs.values.outcomes_settle.Goals as goal
use Rattle.pv_protocol.specs.Records.{choice}
use Rattle.pv_protocol.specs.Shown.{newest, declared_value}

pub returns : goal.returns
returns c = λ catalog records txn commits item a.
    ap (λ b. newest item b (declared_value catalog item) (records ++ outcome_known txn commits ∷ [])) (choice-more records (outcome_known txn commits) a)
    ∙ newest-more item (choice records (with_outcome txn commits a)) records (outcome_known txn commits) (declared_value catalog item)
