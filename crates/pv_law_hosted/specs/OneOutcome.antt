-- Who says what became of a transaction.
use Rattle.std.specs.Prelude.{◌≡◌, ℕ, ◌<◌, Bool, true, false, Some, Ok, List}
use Rattle.std.specs.List.{Contains}
use Rattle.pv_base.specs.declared.reply.Reply.{Reply}
use Rattle.pv_base.specs.declared.txn.TxnId.{TxnId}
use Rattle.pv_format.specs.Message.{Envelope, outcome_reported}
use Rattle.pv_protocol.specs.State.{Cause, Setup, committed, refused}
use Rattle.pv_embed.specs.Held.{message, note}
use Rattle.pv_embed.specs.Hosted.{HostedState}
use Rattle.pv_embed.specs.Outcomes.{TellsOutcome}
use Rattle.pv_embed.specs.declared.asked.Outcome.TheVariants.{Committed, NotCommitted}
use Rattle.pv_law_hosted.specs.Deployment.{Deployment, station_at}

-- A site says that the transaction has committed, or that it hasn't and never will: in a message to another site or in a report, which it has let out, or as its host asks now.
pub data IsSaid (setup : Setup) (d : Deployment) (txn : TxnId) : Bool → Type 0 where
  in_message : (n : ℕ) (envelope : Envelope) (commits : Bool) → n < setup.catalog.sites → Contains (station_at d n).let_out (message envelope)
      → envelope.message ≡ outcome_reported txn commits → IsSaid setup d txn commits
  as_committed : (n : ℕ) (replies : List Reply) → n < setup.catalog.sites → Contains (station_at d n).let_out (note (committed txn replies)) → IsSaid setup d txn true
  as_refused : (n : ℕ) (cause : Cause) → n < setup.catalog.sites → Contains (station_at d n).let_out (note (refused txn cause)) → IsSaid setup d txn false
  told_committed : (n : ℕ) (hosted new : HostedState) → n < setup.catalog.sites → (station_at d n).hosted ≡ Some hosted → TellsOutcome hosted new txn (Ok Committed)
      → IsSaid setup d txn true
  told_not : (n : ℕ) (hosted new : HostedState) → n < setup.catalog.sites → (station_at d n).hosted ≡ Some hosted → TellsOutcome hosted new txn (Ok NotCommitted)
      → IsSaid setup d txn false
