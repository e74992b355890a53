use Rattle.pv_law_outbox.proofs.CertainLemmas.{certain-from, certain-computed}
use Rattle.pv_law_outbox.proofs.certainty_is_computed.Goals as goal

pub returns : goal.returns
returns c outcomes when canonical = (certain-from outcomes when canonical, certain-computed outcomes when canonical)
