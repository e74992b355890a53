-- What an outbox with a host is, and what is let out of it.
use Rattle.std.specs.Prelude.{◌≡◌, ℕ, ◌<◌, ◌≤◌, List, [], ◌∷◌, Result, Ok, Err}
use Rattle.pv_disk_model.specs.Size.{size_of}
use Rattle.pv_host.specs.HostLog.{HostState, IsSameBesideRoom, contents_of, with_asked, with_written}
use Rattle.pv_outbox.specs.OutboxState.{OutboxState}
use Rattle.pv_embed_outbox.specs.declared.fault.TakeFault.{TakeFault}
use Rattle.pv_embed_outbox.specs.declared.fault.TakeFault.TheVariants.{Nothing, Unwritten}
use Rattle.pv_embed_outbox.specs.declared.release.Release.{Release}

-- An outbox with a host: the outbox over its log, and what was released and not taken, the oldest first.
pub record HostedState : Type 0 where
  pub outbox : OutboxState HostState
  pub released : List Release

-- how long the log is, and how much of it is in the host's file
abbrev pub log_length : HostedState → ℕ
log_length hosted = size_of (contents_of hosted.outbox.log)

abbrev pub stored_length : HostedState → ℕ
stored_length hosted = size_of hosted.outbox.log.stored

-- The outbox is as it was, but for the room in its log.
pub record Stays (old new : HostedState) : Type 0 where
  pub log : IsSameBesideRoom old.outbox.log new.outbox.log
  pub same : new ≡ record old { outbox = record old.outbox { log = new.outbox.log } }

-- The host is asked to write a group of what waits, as far as it has so much room.
pub record AsksForGroup (room : ℕ) (old new : HostedState) : Type 0 where
  pub log : new.outbox.log ≡ with_asked room old.outbox.log
  pub same : new ≡ record old { outbox = record old.outbox { log = new.outbox.log } }

-- The host has told that it has written what came next.
pub record Writes (old new : HostedState) : Type 0 where
  pub log : IsSameBesideRoom (with_written old.outbox.log) new.outbox.log
  pub same : new ≡ record old { outbox = record old.outbox { log = new.outbox.log } }

-- What is taken of the releases, where so much of the log is in the file: the first, if the log was no longer when its record was added.
abbrev pub TakesFirst : ℕ → List Release → List Release → Result ℕ TakeFault → Type 0
TakesFirst stored [] new result = (result ≡ Err Nothing) × (new ≡ [])
TakesFirst stored (first ∷ later) new (Err Unwritten) = (stored < first.length) × (new ≡ first ∷ later)
TakesFirst stored (first ∷ later) new (Err Nothing) = ⊥
TakesFirst stored (first ∷ later) new (Ok output) = (first.length ≤ stored) × (output ≡ first.output) × (new ≡ later)
