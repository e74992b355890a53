-- The lemma, as the law of an empty function.
use Rattle.pv_law_compaction.proofs.StandingLemmas.{stands-trans}
use Rattle.pv_law_compaction.proofs.lists.standing_for_is_transitive.Goals as goal

pub returns : goal.returns
returns c = λ limit catalog site kept middle all first second. stands-trans limit catalog site kept middle all first second
