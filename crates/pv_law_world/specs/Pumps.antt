-- What a pump needs to come to an end, and what that is.
use Rattle.std.specs.Prelude.{◌≡◌, ◌<◌, ◌≤◌, ◌+◌, ℕ, None, length, All}
use Rattle.pv_base.specs.declared.limits.TheConstants.{MAX_SITES}
use Rattle.pv_base.specs.Catalog.{Declared}
use Rattle.pv_protocol.specs.Pump.{deliveries, enough, next_fresh}
use Rattle.pv_protocol.specs.Run.{world_after}
use Rattle.pv_protocol.specs.State.{Setup}
use Rattle.pv_protocol.specs.World.{World}

-- Each message that was sent is marked as fresh or done.
abbrev pub AreMarked : World → Type 0
AreMarked world = length world.sent ≡ length world.fresh

-- There are at most 16 sites, and each item is at one of them.
pub record HasFewSites (catalog : Declared) : Type 0 where
  pub few : catalog.sites ≤ MAX_SITES
  pub homes : All (λ item. item.site < catalog.sites) catalog.items

-- A pump that begins in this world comes to its end: then no message is fresh, and with leave for more it makes no others.
pub record HasPumpEnd (setup : Setup) (world : World) : Type 0 where
  pub none_left : next_fresh (world_after world (deliveries (enough world) setup world)) ≡ None
  pub no_others : (more : ℕ) → deliveries (enough world + more) setup world ≡ deliveries (enough world) setup world
