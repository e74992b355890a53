-- Runs of an outbox: calls with their answers, stops anywhere, and openings.
use Rattle.std.specs.Prelude.{◌≡◌, ℕ, ℤ, Bool, true, false, List, [], ◌∷◌, ◌++◌, Some, None}
use Rattle.pv_base.specs.Polyvalue.{Case}
use Rattle.pv_base.specs.declared.txn.TxnId.{TxnId}
use Rattle.pv_law_outbox.specs.Ready.{IsNext, NoneReady}
use Rattle.pv_law_outbox.specs.State.{Record, held, learnt, taken, Held, State, state_of, condition_of, is_held, outcome_of, is_taken}

-- What comes of a call of an outbox, of a stop or of an opening.
pub data Event : Type 0 where
  -- an output is held
  holds : (output : ℕ) (when : List (Case ℤ)) → Event
  -- an output isn't held, since it was before
  holds_already : (output : ℕ) → Event
  -- an outcome is learnt
  learns : (txn : TxnId) (commits : Bool) → Event
  -- an outcome isn't learnt, since this one was before
  knows_already : (txn : TxnId) (commits : Bool) → Event
  -- an output is released
  releases : (output : ℕ) → Event
  -- no output is released, since none is ready
  has_none : Event
  -- the process stops, or the log fails, in one of the writes and syncs of a record, which is written or isn't
  breaks : (entry : Record) (written : Bool) → Event
  -- nothing is written: a stop between two calls, an opening, or a call that is refused for another cause
  passes : Event

-- A record that a call may write, by what was said before.
abbrev pub MayWrite : State → Record → Type 0
MayWrite state (held output when) = is_held state output ≡ false
MayWrite state (learnt txn commits) = outcome_of state txn ≡ None
MayWrite state (taken output) = IsNext state output

-- The record is written.
pub record IsWritten (old : List Record) (entry : Record) (new : List Record) : Type 0 where
  pub may : MayWrite (state_of old) entry
  pub written : new ≡ old ++ entry ∷ []

-- An event takes an outbox with the one list of records to the other.
abbrev pub Happens : List Record → Event → List Record → Type 0
Happens old (holds output when) new = IsWritten old (held output when) new
Happens old (holds_already output) new = (is_held (state_of old) output ≡ true) × (new ≡ old)
Happens old (learns txn commits) new = IsWritten old (learnt txn commits) new
Happens old (knows_already txn commits) new = (outcome_of (state_of old) txn ≡ Some commits) × (new ≡ old)
Happens old (releases output) new = IsWritten old (taken output) new
Happens old has_none new = NoneReady (state_of old) (state_of old).held × (new ≡ old)
Happens old (breaks entry true) new = IsWritten old entry new
Happens old (breaks entry false) new = MayWrite (state_of old) entry × (new ≡ old)
Happens old passes new = new ≡ old

-- The events happen, one after another.
abbrev pub Run : List Record → List Event → List Record → Type 0
Run old [] new = new ≡ old
Run old (event ∷ events) new = (mid : List Record) × Happens old event mid × Run mid events new

-- the outputs that are gone by an event: one that is released, or whose release is written as the process stops
abbrev pub gone_by : Event → List ℕ
gone_by (releases output) = output ∷ []
gone_by (breaks (taken output) true) = output ∷ []
gone_by _ = []

-- the outputs that are gone by these events, in their order
abbrev pub gone : List Event → List ℕ
gone [] = []
gone (event ∷ events) = gone_by event ++ gone events

-- What was said before is said still: nothing that was held or learnt is lost or becomes another, and nothing that is released comes back.
pub record IsKept (old new : State) : Type 0 where
  pub held : (output : ℕ) (when : List (Case ℤ)) → condition_of old output ≡ Some when → condition_of new output ≡ Some when
  pub order : (more : List Held) × (new.held ≡ old.held ++ more)
  pub outcomes : (txn : TxnId) (outcome : Bool) → outcome_of old txn ≡ Some outcome → outcome_of new txn ≡ Some outcome
  pub taken : (output : ℕ) → is_taken old output ≡ true → is_taken new output ≡ true
