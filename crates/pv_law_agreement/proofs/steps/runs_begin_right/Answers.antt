-- The lemmas on the opening world.
use Rattle.pv_law_agreement.proofs.OpeningLemmas.{sequence-opens, support-opens, values-open}
use Rattle.pv_law_agreement.proofs.steps.runs_begin_right.Goals as goal

pub returns-clause-sequence : goal.returns-clause-sequence
returns-clause-sequence c = λ setup. sequence-opens setup

pub returns-clause-support : goal.returns-clause-support
returns-clause-support c = λ setup. support-opens setup

pub returns-clause-values : goal.returns-clause-values
returns-clause-values c = λ setup. values-open setup
