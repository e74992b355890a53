-- What the inputs, messages, notes and causes of the code are.
use Rattle.pv_protocol.specs.State as model
use Rattle.pv_protocol.specs.State.{submit, receive, tick, conflict, outcome_limit, uncertain, expired, grant_lost, journal_full, began, committed, refused, full, spent}
use Rattle.pv_site.specs.declared.input.Cause.{Cause}
use Rattle.pv_site.specs.declared.input.Cause.TheVariants.{Conflict, OutcomeLimit, Uncertain, Expired, GrantLost, JournalFull}
use Rattle.pv_site.specs.declared.input.Input.{Input}
use Rattle.pv_site.specs.declared.input.Input.TheVariants.{Submit, Take, Tick}
use Rattle.pv_site.specs.declared.input.Note.{Note}
use Rattle.pv_site.specs.declared.input.Note.TheVariants.{Txn, Commit, Refuse, Full, Spent}
use Rattle.pv_site.specs.declared.input.Outgoing.{Outgoing}
use Rattle.pv_wire.specs.Values.{message_of}

-- The input as plain data.
abbrev pub input_of : Input → model.Input
input_of (Submit program plan) = submit program
input_of (Take from message) = receive from.0 (message_of message)
input_of Tick = tick

-- The message and where it goes, as plain data.
abbrev pub outgoing_of : Outgoing → model.Outgoing
outgoing_of outgoing = record { to = outgoing.to.0; message = message_of outgoing.message }

-- The cause as plain data.
abbrev pub cause_of : Cause → model.Cause
cause_of (Conflict site item holder) = conflict site.0 item.0 holder
cause_of (OutcomeLimit names) = outcome_limit names
cause_of (Uncertain item outcomes) = uncertain item.0 outcomes
cause_of (Expired site) = expired site.0
cause_of (GrantLost site) = grant_lost site.0
cause_of (JournalFull site length) = journal_full site.0 length

-- The note as plain data.
abbrev pub note_of : Note → model.Note
note_of (Txn txn) = began txn
note_of (Commit txn replies) = committed txn replies.items
note_of (Refuse txn cause) = refused txn (cause_of cause)
note_of (Full length) = full length
note_of Spent = spent
