-- By what one more record does to the outcomes and to the newest write.
use Rattle.std.proofs.Common.{[], ◌∷◌, ◌++◌, ap, ◌∙◌}
use Rattle.pv_format.specs.Record.{epoch_begun}
use Rattle.pv_law_step.proofs.OutcomeLemmas.{choice-more}
use Rattle.pv_law_step.proofs.WidthLemmas.{newest-more}
use Rattle.pv_law_step.proofs.values.epochs_change_no_value.Goals as goal
use Rattle.pv_protocol.specs.Records.{choice}
use Rattle.pv_protocol.specs.Shown.{newest, declared_value}

pub returns : goal.returns
returns c = λ catalog records epoch item a.
    ap (λ b. newest item b (declared_value catalog item) (records ++ epoch_begun epoch ∷ [])) (choice-more records (epoch_begun epoch) a)
    ∙ newest-more item (choice records a) records (epoch_begun epoch) (declared_value catalog item)
