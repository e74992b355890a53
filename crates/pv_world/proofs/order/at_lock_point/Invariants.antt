use Rattle.std.proofs.Common.{◌≡◌, ◌++◌, ◌-◌, ℕ, map}
use Rattle.pv_base.specs.Catalog.{Declared}
use Rattle.pv_protocol.specs.State as state
use Rattle.pv_world.specs.Places.{votes_from}
use Rattle.pv_world.specs.Stands.{StandsForSite, grant_of}
use Rattle.pv_world.proofs.order.at_lock_point.Given as goal

abbrev pub invariant-loop-site : goal.invariant-loop-site
invariant-loop-site l = (catalog : Declared) (n : ℕ) (is : state.Site) → StandsForSite catalog n l.home is
    → map grant_of l.grants.items ++ votes_from is.running l.txn l.site (l.sites - l.site) ≡ votes_from is.running l.txn 0 l.sites
