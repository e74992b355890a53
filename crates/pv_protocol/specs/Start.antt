-- How a site starts: in the epoch after the last one, which it records first.
use Rattle.std.specs.Prelude.{ℕ, ◌+◌, nat_lt, nat_le, List, [], if◌then◌else◌}
use Rattle.pv_base.specs.declared.limits.TheConstants.{NEVER_GIVEN}
use Rattle.pv_format.specs.Contents.{greatest_epoch}
use Rattle.pv_format.specs.Record.{Record, epoch_begun}
use Rattle.pv_protocol.specs.Records.{record_bytes, longer_journal}
use Rattle.pv_protocol.specs.State.{Setup, Running}

-- what a site makes of a start
pub data Started : Type 0 where
  -- it is to record this epoch, and then runs with this memory
  starts : Running → Record → Started
  -- the journal with the record would have this length, above its limit
  too_long : (length : ℕ) → Started
  -- no epoch is left
  no_epoch : Started

-- the memory of a site that has just started: no grants and no entries, and numbers from 0
abbrev pub just_started : ℕ → Running
just_started epoch = record { epoch = epoch; next_txn = 0; next_grant = 0; grants = []; entries = [] }

-- The site starts in this epoch, if the journal has room for its record. The journal is by so many bytes longer than its records make it.
abbrev pub starting : Setup → ℕ → List Record → ℕ → Started
starting setup surplus records epoch =
    if nat_lt setup.catalog.journal (longer_journal surplus records + record_bytes (epoch_begun epoch))
    then too_long (longer_journal surplus records + record_bytes (epoch_begun epoch))
    else starts (just_started epoch) (epoch_begun epoch)

-- A site starts with these records, in a journal that is by so many bytes longer than they make it.
unfoldable pub site_start : Setup → ℕ → List Record → Started
site_start setup surplus records =
    if nat_le NEVER_GIVEN (greatest_epoch records + 1) then no_epoch else starting setup surplus records (greatest_epoch records + 1)
