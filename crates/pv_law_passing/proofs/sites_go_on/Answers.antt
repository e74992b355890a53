use Rattle.pv_law_passing.proofs.TrafficLemmas.{goes-more, goes-none}
use Rattle.pv_law_passing.proofs.sites_go_on.Goals as goal

pub returns-clause-more : goal.returns-clause-more
returns-clause-more c setup me history entry old new goes takes =
    goes-more setup me history old new goes (c.histories_grow.ensures.steps setup) c.histories_grow.ensures.stamps (c.histories_grow.ensures.posted setup) entry takes

pub returns-clause-none : goal.returns-clause-none
returns-clause-none c setup me history old new goes offered posted gives = goes-none setup me history old new goes offered posted gives
