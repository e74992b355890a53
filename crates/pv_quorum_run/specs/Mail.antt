-- The messages that were sent, as they are kept.
use Rattle.std.specs.Prelude.{ℕ, Bool, List}
use Rattle.pv_law_quorum.specs.World.{Envelope}
use Rattle.pv_quorum.specs.Values.{message_of}
use Rattle.pv_quorum.specs.declared.message.QuorumSend.{QuorumSend}
use Rattle.pv_quorum_run.specs.declared.mail.Sent.{Sent}

-- every message, by its number, and whether it is fresh
pub record MailState : Type 0 where
  pub sent : List Sent
  pub fresh : List Bool

-- a message as plain data
abbrev pub envelope_of : Sent → Envelope
envelope_of post = record { from = post.from; to = post.to; message = message_of post.message }

-- a message that a decider sends
abbrev pub sent_by : ℕ → QuorumSend → Sent
sent_by from send = record { from = from; to = send.to; message = send.message }
