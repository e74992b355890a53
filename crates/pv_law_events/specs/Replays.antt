-- What a start finds in a journal.
use Rattle.std.specs.Prelude.{ℕ, ◌<◌, ◌≤◌, List, All}
use Rattle.pv_format.specs.Record.{Record}
use Rattle.pv_format.specs.RecordSpelling.{SpellsRecord}
use Rattle.pv_protocol.specs.Records.{journal_bytes}
use Rattle.pv_protocol.specs.State.{Setup}
use Rattle.pv_protocol.specs.Width.{IsNarrow}
use Rattle.pv_protocol.specs.World.{World, site_at}

-- The site can read its records anew: each has a spelling, the journal has room for them, and after each promise, with all outcomes known
-- that any record says, every item's value names few enough outcomes.
pub record CanBeReplayed (setup : Setup) (n : ℕ) (records : List Record) : Type 0 where
  pub spelled : All (λ kept. (bytes : List ℕ) × SpellsRecord kept bytes) records
  pub room : journal_bytes records ≤ setup.catalog.journal
  pub narrow : IsNarrow setup.held_names setup.catalog n records

-- Each site of the world, up or down, can read its records anew.
abbrev pub AreReplayable : Setup → World → Type 0
AreReplayable setup world = (n : ℕ) → n < setup.catalog.sites → CanBeReplayed setup n (site_at world n).records
