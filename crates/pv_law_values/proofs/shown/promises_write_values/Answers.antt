-- The lemma, as the law of an empty function.
use Rattle.pv_law_values.proofs.ShownMore.{within-written}
use Rattle.pv_law_values.proofs.shown.promises_write_values.Goals as goal

pub returns : goal.returns
returns c = within-written
