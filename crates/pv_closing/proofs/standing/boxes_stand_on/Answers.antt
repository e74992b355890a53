use Rattle.pv_closing.proofs.StandLemmas.{answers-on, places-on, plans-on, stand-on}
use Rattle.pv_closing.proofs.standing.boxes_stand_on.Goals as goal

pub returns-clause-together : goal.returns-clause-together
returns-clause-together g c script boxes later clients asking stand on asks = stand-on g.L.Log.model script boxes later clients asking stand on asks

pub returns-clause-places : goal.returns-clause-places
returns-clause-places g c clients boxes later on places = places-on g.L.Log.model clients boxes later on places

pub returns-clause-plans : goal.returns-clause-plans
returns-clause-plans g c plan boxes later on plans = plans-on g.L.Log.model plan boxes later on plans

pub returns-clause-answers : goal.returns-clause-answers
returns-clause-answers g c boxes later on answers = answers-on g.L.Log.model boxes later on answers
