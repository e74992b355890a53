use Rattle.pv_law_histories.proofs.MergeLemmas.{merged-lines, merged-sites}
use Rattle.pv_law_histories.proofs.merged_histories_are_a_run.Goals as goal

pub returns-clause-lines : goal.returns-clause-lines
returns-clause-lines c setup histories moments fit merge = merged-lines setup histories moments fit merge

pub returns-clause-sites : goal.returns-clause-sites
returns-clause-sites c setup histories moments fit merge = merged-sites setup histories moments fit merge
