use Rattle.pv_law_passing.proofs.RingLemmas.{pass-messages}
use Rattle.pv_law_passing.proofs.TrafficLemmas.{go-by-rings}
use Rattle.pv_law_passing.proofs.sites_go_by_rings.Goals as goal
use Rattle.pv_law_passing.specs.Traffic.{rings_of}

pub returns-clause-go : goal.returns-clause-go
returns-clause-go c setup histories all go = go-by-rings setup histories all go

pub returns-clause-fit : goal.returns-clause-fit
returns-clause-fit c setup histories all go =
    c.passed_messages_fit_together.ensures setup histories (pass-messages setup histories (rings_of all) (go-by-rings setup histories all go))
