use Rattle.pv_law_passing.proofs.RingLemmas.{stand-once}
use Rattle.pv_law_passing.proofs.requests_stand_once.Goals as goal

pub returns : goal.returns
returns c client script posted taken history asks = stand-once client script posted taken history asks
