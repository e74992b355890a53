use Rattle.pv_law_passing.proofs.RingLemmas.{ring-loses, ring-takes, still-taken}
use Rattle.pv_law_passing.proofs.rings_go_on.Goals as goal

pub returns-clause-loses : goal.returns-clause-loses
returns-clause-loses c ring one brings = ring-loses ring one brings

pub returns-clause-takes : goal.returns-clause-takes
returns-clause-takes c ring one count brings = ring-takes ring one count brings

pub returns-clause-taken : goal.returns-clause-taken
returns-clause-taken c taken later sites to intake longer was = still-taken taken later sites to intake longer was
