-- The lemma, as the law of an empty function.
use Rattle.pv_law_step.proofs.NameLists.{names-are}
use Rattle.pv_law_step.proofs.values.names_are_listed.Goals as goal

pub returns : goal.returns
returns g c = λ cases. names-are cases
