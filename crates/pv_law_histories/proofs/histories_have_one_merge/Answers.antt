use Rattle.pv_law_histories.proofs.MergingLemmas.{merge-is, merge-only}
use Rattle.pv_law_histories.proofs.histories_have_one_merge.Goals as goal

pub returns-clause-there : goal.returns-clause-there
returns-clause-there c histories rise = merge-is histories rise

pub returns-clause-only : goal.returns-clause-only
returns-clause-only c histories moments others one other = merge-only histories moments others one other
