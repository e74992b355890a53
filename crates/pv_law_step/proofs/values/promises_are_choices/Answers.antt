-- By what one more record does to the outcomes and to the newest write.
use Rattle.std.proofs.Common.{[], ◌∷◌, ◌++◌, ap, ◌∙◌}
use Rattle.pv_format.specs.Record.{prepared}
use Rattle.pv_law_step.proofs.OutcomeLemmas.{choice-more}
use Rattle.pv_law_step.proofs.WidthLemmas.{newest-more}
use Rattle.pv_law_step.proofs.values.promises_are_choices.Goals as goal
use Rattle.pv_protocol.specs.Records.{choice}
use Rattle.pv_protocol.specs.Shown.{newest, declared_value}

pub returns : goal.returns
returns c = λ catalog records txn writes item a.
    ap (λ b. newest item b (declared_value catalog item) (records ++ prepared txn writes ∷ [])) (choice-more records (prepared txn writes) a)
    ∙ newest-more item (choice records a) records (prepared txn writes) (declared_value catalog item)
