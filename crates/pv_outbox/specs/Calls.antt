-- What the calls of an outbox do, by their answers.
use Rattle.std.specs.Prelude.{◌≡◌, ◌⊎◌, ℕ, ℤ, ◌+◌, ◌<◌, Bool, true, false, List, [], ◌∷◌, length, Option, Some, None, Result, Ok, Err}
use Rattle.pv_base.specs.Polyvalue.{Case}
use Rattle.pv_base.specs.declared.txn.TxnId.{TxnId}
use Rattle.pv_disk_model.specs.Calls.{Makes, append, reserve}
use Rattle.pv_disk_model.specs.Log.{Keeps, Adds, MayAdd, StaysUp, GoesDown, IsWithin}
use Rattle.pv_disk_model.specs.LogModel.{LogModel}
use Rattle.pv_law_outbox.specs.Ready.{NoneReady}
use Rattle.pv_law_outbox.specs.Runs.{MayWrite}
use Rattle.pv_law_outbox.specs.State.{Record, held, learnt, taken, after, is_held, outcome_of}
use Rattle.pv_outbox.specs.OutboxState.{OutboxState}
use Rattle.pv_outbox.specs.Spelling.{SpellsRecord}
use Rattle.pv_outbox.specs.declared.error.BoxError.{BoxError}
use Rattle.pv_outbox.specs.declared.error.BoxError.TheVariants.{Again, Known, Failed, Full, NoMemory}

module _ {W : Type 0} (M : LogModel W) where
  -- Of a log that has room within its limit, the calls by which these bytes are appended, and whether all of them succeed. For those who know what the log is.
  pub record IsAsked (old new : W) (bytes : List ℕ) (ok : Bool) : Type 0 where
    pub within : IsWithin M old (length bytes)
    pub calls : Makes M.goes old (reserve (length bytes) ∷ append bytes ∷ []) ok new

  -- The record is in the log, by bytes that spell it, and the outbox knows what it says. What a crash leaves at each moment is said with `Adds`.
  pub record Writes (old new : OutboxState W) (entry : Record) : Type 0 where
    pub bytes : List ℕ
    pub spelled : SpellsRecord entry bytes
    pub state : new.state ≡ after old.state entry
    pub is_up : new.is_down ≡ false
    pub up : StaysUp M old.log new.log
    pub log : Adds M old.log new.log bytes
    pub asked : IsAsked old.log new.log bytes true

  -- The log failed at the record, which it holds or doesn't, and the outbox is down.
  pub record Breaks (old new : OutboxState W) (entry : Record) : Type 0 where
    pub bytes : List ℕ
    pub spelled : SpellsRecord entry bytes
    pub outbox : new ≡ record old { is_down = true; log = new.log }
    pub down : GoesDown M old.log new.log
    pub log : MayAdd M old.log new.log bytes
    pub asked : IsAsked old.log new.log bytes false

  -- With the record the log would have this length, above its limit, and nothing changed.
  pub record IsFull (old new : OutboxState W) (entry : Record) (with_it : ℕ) : Type 0 where
    pub bytes : List ℕ
    pub spelled : SpellsRecord entry bytes
    pub outbox : new ≡ old
    pub length_is : with_it ≡ M.size old.log + (5 + length bytes)
    pub above : M.limit old.log < with_it

  -- No call of the log was made, or one for room, whether it found it or not. For those who know what the log is.
  abbrev pub MayAskForRoom : W → W → Type 0
  MayAskForRoom old new = (new ≡ old) ⊎ ((content : ℕ) × (ok : Bool) × M.goes old (reserve content) ok new)

  -- There was no memory, and the outbox knows what it knew.
  pub record Stays (old new : OutboxState W) : Type 0 where
    pub outbox : new ≡ record old { log = new.log }
    pub up : StaysUp M old.log new.log
    pub log : Keeps M old.log new.log
    pub asked : MayAskForRoom old.log new.log

  -- Of an outbox that is up, a call that is to write this record and doesn't comes to this, by its error.
  abbrev pub Fails : OutboxState W → OutboxState W → Record → BoxError → Type 0
  Fails old new entry Failed = Breaks old new entry
  Fails old new entry (Full with_it) = IsFull old new entry with_it
  Fails old new entry NoMemory = Stays old new
  Fails old new entry _ = ⊥

  -- Of an outbox that is up, a call that is to write this record comes to this, by its answer.
  abbrev pub Ends : OutboxState W → OutboxState W → Record → {X : Type 0} → Result X BoxError → Type 0
  Ends old new entry (Ok _) = Writes old new entry
  Ends old new entry (Err e) = Fails old new entry e

  -- Of an outbox that is up: an output is held, by the answer.
  abbrev pub Holds : OutboxState W → OutboxState W → ℕ → List (Case ℤ) → {X : Type 0} → Result X BoxError → Type 0
  Holds old new output when (Err Again) = (is_held old.state output ≡ true) × (new ≡ old)
  Holds old new output when answer = MayWrite old.state (held output when) × Ends old new (held output when) answer

  -- Of an outbox that is up: an outcome is learnt, by the answer.
  abbrev pub Learns : OutboxState W → OutboxState W → TxnId → Bool → {X : Type 0} → Result X BoxError → Type 0
  Learns old new txn commits (Err (Known outcome)) = (outcome_of old.state txn ≡ Some outcome) × (new ≡ old)
  Learns old new txn commits answer = MayWrite old.state (learnt txn commits) × Ends old new (learnt txn commits) answer

  -- Of an outbox that is up: an output is released, by the answer. Where it isn't for another cause, it is the next one all the same.
  abbrev pub Takes : OutboxState W → OutboxState W → Result (Option ℕ) BoxError → Type 0
  Takes old new (Ok None) = NoneReady old.state old.state.held × (new ≡ old)
  Takes old new (Ok (Some output)) = MayWrite old.state (taken output) × Writes old new (taken output)
  Takes old new (Err e) = (output : ℕ) × MayWrite old.state (taken output) × Fails old new (taken output) e
