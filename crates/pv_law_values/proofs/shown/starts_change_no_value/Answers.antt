-- The lemma, as the law of an empty function.
use Rattle.pv_law_values.proofs.ShownMore.{shown-epoch}
use Rattle.pv_law_values.proofs.shown.starts_change_no_value.Goals as goal

pub returns : goal.returns
returns c = shown-epoch
