-- The lemma, as the law of an empty function.
use Rattle.pv_law_compaction.proofs.MoreLemmas.{more-stands}
use Rattle.pv_law_compaction.proofs.lists.appended_records_are_stood_for.Goals as goal

pub returns : goal.returns
returns c = λ limit catalog site kept all more stands fixed new narrow. more-stands limit catalog site kept all stands more fixed new narrow
