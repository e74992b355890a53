-- The search ends at the item's place.
use Rattle.pv_store.proofs.StandingLemmas.{searched-apart}
use Rattle.pv_store.proofs.standing.place_among.Goals as goal

pub returns-clause-apart : goal.returns-clause-apart
returns-clause-apart c = searched-apart c.args.named.now c.args.item c.binary_search.result c.requires c.binary_search.ensures.bound c.binary_search.ensures.position
