-- The cases of a start, each with what it comes from.
use Rattle.std.specs.Prelude.{◌≡◌, ℕ, ◌+◌, nat_lt, nat_le, true, false, List}
use Rattle.pv_base.specs.declared.limits.TheConstants.{NEVER_GIVEN}
use Rattle.pv_format.specs.Contents.{greatest_epoch}
use Rattle.pv_format.specs.Record.{Record, epoch_begun}
use Rattle.pv_protocol.specs.Records.{record_bytes, longer_journal}
use Rattle.pv_protocol.specs.Start.{Started, starts, too_long, no_epoch, just_started}
use Rattle.pv_protocol.specs.State.{Setup}

-- The cases of a start, in a journal that is by so many bytes longer than the records make it.
pub data StartCase (setup : Setup) (surplus : ℕ) (records : List Record) : Started → Type 0 where
  no_epoch_left : nat_le NEVER_GIVEN (greatest_epoch records + 1) ≡ true → StartCase setup surplus records no_epoch
  no_room : nat_le NEVER_GIVEN (greatest_epoch records + 1) ≡ false
      → nat_lt setup.catalog.journal (longer_journal surplus records + record_bytes (epoch_begun (greatest_epoch records + 1))) ≡ true
      → StartCase setup surplus records (too_long (longer_journal surplus records + record_bytes (epoch_begun (greatest_epoch records + 1))))
  begins : nat_le NEVER_GIVEN (greatest_epoch records + 1) ≡ false
      → nat_lt setup.catalog.journal (longer_journal surplus records + record_bytes (epoch_begun (greatest_epoch records + 1))) ≡ false
      → StartCase setup surplus records (starts (just_started (greatest_epoch records + 1)) (epoch_begun (greatest_epoch records + 1)))
