use Rattle.pv_outbox.proofs.AnsweredLemmas.{none-answered}
use Rattle.pv_outbox.proofs.laws.none_comes_where_none_is_ready.Goals as goal

pub returns : goal.returns
returns g c = λ old new answer none takes. none-answered g.L.Log.model old new none answer takes
