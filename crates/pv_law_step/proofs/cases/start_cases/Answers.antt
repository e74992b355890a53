-- The lemma, as the law of an empty function.
use Rattle.pv_law_step.proofs.StartLemmas.{start-case}
use Rattle.pv_law_step.proofs.cases.start_cases.Goals as goal

pub returns : goal.returns
returns c = start-case
