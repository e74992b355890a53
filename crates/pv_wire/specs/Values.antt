-- What the messages of the code are.
use Rattle.pv_format.specs.Message as model
use Rattle.pv_format.specs.Message.{lock, granted, denied, prepare, vote_yes, vote_no, outcome_reported, ask, grant_lost, journal_full}
use Rattle.pv_wire.specs.declared.message.Envelope.{Envelope}
use Rattle.pv_wire.specs.declared.message.Message.{Message}
use Rattle.pv_wire.specs.declared.message.Message.TheVariants.{Lock, Granted, Denied, Prepare, Yes, No, Outcome, Ask}
use Rattle.pv_wire.specs.declared.message.NoCause.{NoCause}
use Rattle.pv_wire.specs.declared.message.NoCause.TheVariants.{GrantLost, JournalFull}

-- The cause as plain data.
abbrev pub cause_of : NoCause → model.NoCause
cause_of GrantLost = grant_lost
cause_of (JournalFull length) = journal_full length

-- The message as plain data.
abbrev pub message_of : Message → model.Message
message_of (Lock txn wants) = lock txn wants.items
message_of (Granted txn grant values) = granted txn grant values.items
message_of (Denied txn item holder) = denied txn item.0 holder
message_of (Prepare txn grant writes) = prepare txn grant writes.items
message_of (Yes txn) = vote_yes txn
message_of (No txn cause) = vote_no txn (cause_of cause)
message_of (Outcome txn commits) = outcome_reported txn commits
message_of (Ask txn) = ask txn

-- The message on its way, as plain data.
abbrev pub envelope_of : Envelope → model.Envelope
envelope_of envelope = record { from = envelope.from.0; to = envelope.to.0; message = message_of envelope.message }
