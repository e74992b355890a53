-- The lemma, as the law of an empty function.
use Rattle.pv_law_compaction.proofs.WorldLemmas.{agrees-still}
use Rattle.pv_law_compaction.proofs.worlds.kept_worlds_agree_too.Goals as goal

pub returns : goal.returns
returns c = λ setup kept all decided given_order stands agrees. agrees-still all decided given_order setup kept stands agrees
