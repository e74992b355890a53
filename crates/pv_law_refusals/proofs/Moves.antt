-- What one event of a run does: what a site takes, what is sent, and what each site has in memory then.
use Rattle.std.specs.Prelude.{◌≡◌, ℕ, Bool, false, Some, List, slice_get, ◌⊎◌, Contains}
use Rattle.pv_base.specs.declared.txn.TxnId.{TxnId}
use Rattle.pv_format.specs.Message.{Message}
use Rattle.pv_law_acts.specs.Seen.{records_at, memory_at, Sent}
use Rattle.pv_model.specs.Events.{Event}
use Rattle.pv_protocol.specs.Committed.{entry_in}
use Rattle.pv_protocol.specs.State.{Setup, Entry, Running, Input, submit, receive, tick}
use Rattle.pv_protocol.specs.Step.{site_step}
use Rattle.pv_protocol.specs.Waiting.{is_tick_of}
use Rattle.pv_protocol.specs.World.{World}

-- In this world the event gives the site this input.
abbrev pub Comes : World → Event → ℕ → Input → Type 0
Comes world event n (submit program) = (query : Bool) × ((text : List ℕ) × (event ≡ Event.submit n query text program))
Comes world event n (receive from message) =
    (number : ℕ) × ((event ≡ Event.deliver number) × (slice_get world.sent number ≡ Some (record { from = from; to = n; message = message })))
Comes world event n tick = event ≡ Event.tick n

-- The site is up in this world and takes this input.
pub record TakesInput (world : World) (event : Event) (n : ℕ) (running : Running) (input : Input) : Type 0 where
  pub comes : Comes world event n input
  pub up : memory_at world n ≡ Some running

-- The message is sent now, by a site in the step that it makes.
pub record IsSentNow (setup : Setup) (world : World) (event : Event) (from to : ℕ) (message : Message) : Type 0 where
  pub running : Running
  pub input : Input
  pub takes : TakesInput world event from running input
  pub sent : Contains (site_step setup from (records_at world from) running input).sends (record { to = to; message = message })

-- What a site has in memory after the event: what it had, and the event is no tick of it; no entry; or what its step leaves it.
pub data SiteAfter (setup : Setup) (world : World) (event : Event) (after : World) (n : ℕ) : Type 0 where
  is_as_it_was : memory_at after n ≡ memory_at world n → is_tick_of n event ≡ false → SiteAfter setup world event after n
  has_no_entry : ((txn : TxnId) (entry : Entry) → entry_in (memory_at after n) txn ≡ Some entry → ⊥) → SiteAfter setup world event after n
  has_stepped : (running : Running) (input : Input) → TakesInput world event n running input
      → memory_at after n ≡ Some (site_step setup n (records_at world n) running input).running → SiteAfter setup world event after n

-- What an event does, wherever it stops a site.
pub record IsMove (setup : Setup) (world : World) (event : Event) (after : World) : Type 0 where
  pub sent : (from to : ℕ) (message : Message) → Sent after from to message → Sent world from to message ⊎ IsSentNow setup world event from to message
  pub sites : (n : ℕ) → SiteAfter setup world event after n
