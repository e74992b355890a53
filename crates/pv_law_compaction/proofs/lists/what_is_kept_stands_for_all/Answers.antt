-- The lemma, as the law of an empty function.
use Rattle.pv_law_compaction.proofs.MoreLemmas.{kept-stands}
use Rattle.pv_law_compaction.proofs.lists.what_is_kept_stands_for_all.Goals as goal

pub returns : goal.returns
returns c = λ limit catalog site kept all may. kept-stands limit catalog site kept all may
