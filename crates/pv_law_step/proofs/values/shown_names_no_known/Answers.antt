-- The lemma, as the law of an empty function.
use Rattle.pv_law_step.proofs.ShownLemmas.{shown-undecided}
use Rattle.pv_law_step.proofs.values.shown_names_no_known.Goals as goal

pub returns : goal.returns
returns c = λ catalog records item. shown-undecided catalog records records item
