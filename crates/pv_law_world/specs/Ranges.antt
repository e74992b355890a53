-- Worlds that are in range.
use Rattle.std.specs.Prelude.{◌≡◌, ℕ, ◌<◌, ◌≤◌, Some, length, All}
use Rattle.pv_base.specs.Catalog.{Declared}
use Rattle.pv_format.specs.Range.{IsEnvelopeWithin, IsRecordWithin}
use Rattle.pv_protocol.specs.Records.{journal_bytes}
use Rattle.pv_protocol.specs.Sound.{IsRunningInRange}
use Rattle.pv_protocol.specs.State.{Setup, Running, Site}
use Rattle.pv_protocol.specs.Width.{IsNarrow}
use Rattle.pv_protocol.specs.World.{World, site_at}

-- The records of the site of this number are in range, its values narrow, its journal has room, and what it has in memory, where
-- it is up, is in range.
pub record IsSiteInRange (setup : Setup) (n : ℕ) (site : Site) : Type 0 where
  pub records : All (IsRecordWithin setup.catalog.sites) site.records
  pub narrow : IsNarrow setup.held_names setup.catalog n site.records
  pub room : journal_bytes site.records ≤ setup.catalog.journal
  pub running : (running : Running) → site.running ≡ Some running → IsRunningInRange setup.catalog.sites setup.catalog n running

-- Each site of the catalog is in range, there are no others, and each message that was sent is in range: its sender
-- and its receiver are sites of the catalog, and it has a spelling.
pub record IsWorldInRange (setup : Setup) (world : World) : Type 0 where
  pub count : length world.sites ≡ setup.catalog.sites
  pub sites : (n : ℕ) → n < setup.catalog.sites → IsSiteInRange setup n (site_at world n)
  pub sent : All (IsEnvelopeWithin setup.catalog.sites) world.sent

-- what is fixed for a run with this catalog and these limits on names
abbrev pub with_limits : Declared → (read_names held_names : ℕ) → Setup
with_limits catalog read_names held_names = record { catalog = catalog; read_names = read_names; held_names = held_names }
