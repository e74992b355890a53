-- The lemma, as the law of an empty function.
use Rattle.pv_law_compaction.proofs.RangeLemmas.{compacted-in-range}
use Rattle.pv_law_compaction.proofs.compacted.compacted_records_are_in_range.Goals as goal

pub returns : goal.returns
returns c = λ setup sites site records range home narrow all begun. compacted-in-range setup sites site records range narrow all home begun
