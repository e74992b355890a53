-- What a coordinator decides once all participants have voted yes.
use Rattle.std.specs.Prelude.{true, if◌then◌else◌}
use Rattle.pv_format.specs.Record.{outcome_known}
use Rattle.pv_protocol.specs.Here.{Here, is_full, length_with, refusing}
use Rattle.pv_protocol.specs.State.{Entry, Step, journal_full}
use Rattle.pv_protocol.specs.Vote.{committing}

-- The entry's transaction commits, if the journal has room for the record that it does, and else is refused.
abbrev pub deciding : Here → Entry → Step
deciding here entry =
    if is_full here (outcome_known entry.txn true)
    then refusing here entry (journal_full here.me (length_with here (outcome_known entry.txn true)))
    else committing here entry
