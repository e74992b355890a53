use Rattle.pv_law_histories.proofs.WellFormedLemmas.{merge-well}
use Rattle.pv_law_histories.proofs.merged_events_are_well_formed.Goals as goal

pub returns : goal.returns
returns c setup histories moments fit merge can = merge-well setup histories moments fit merge can
