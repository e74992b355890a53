-- A proposal that nothing disturbs: messages are delivered, and nothing else happens.
use Rattle.std.specs.Prelude.{◌≡◌, ◌⊎◌, ℕ, ◌+◌, ◌<◌, Bool, true, false, Some, List, [], ◌∷◌, map, slice_get}
use Rattle.std.specs.List.{Contains}
use Rattle.pv_base.specs.declared.txn.TxnId.{TxnId}
use Rattle.pv_law_quorum.specs.Ballot.{Ballot, is_passed, is_majority}
use Rattle.pv_law_quorum.specs.Record.{promised}
use Rattle.pv_law_quorum.specs.Decider.{Setup, Message, prepare, promise, accept, accepted, Entry, Line, decided, spent, full, number_in}
use Rattle.pv_law_quorum.specs.World.{World, Envelope, whole, Event, delivery, decider_at, records_at, after_event, after}

-- the world, with nothing reported so far
abbrev pub unreported : World → World
unreported world = record world { lines = [] }

-- the ballot that a decider proposes next for the transaction
abbrev pub next_ballot : World → ℕ → TxnId → Ballot
next_ballot world n txn = record { number = number_in (promised txn (records_at world n)) + 1; decider = n }

-- the messages of these numbers are delivered, one after another
abbrev pub delivering : List ℕ → List Event
delivering numbers = map (λ number. delivery number whole) numbers

-- the world after that
abbrev pub after_all : Setup → World → List ℕ → World
after_all setup world numbers = after setup world (delivering numbers)

-- The message is among those that are delivered, after it was sent.
abbrev pub IsDelivered : Setup → Envelope → World → List ℕ → Type 0
IsDelivered setup envelope world [] = ⊥
IsDelivered setup envelope world (number ∷ numbers) =
    (slice_get world.sent number ≡ Some envelope) ⊎ IsDelivered setup envelope (after_event setup world (delivery number whole)) numbers

-- The message is of this ballot of the transaction.
abbrev pub IsOf : TxnId → Ballot → Message → Type 0
IsOf txn ballot (prepare other taken) = (other ≡ txn) × (taken ≡ ballot)
IsOf txn ballot (promise other taken last) = (other ≡ txn) × (taken ≡ ballot)
IsOf txn ballot (accept other taken commits) = (other ≡ txn) × (taken ≡ ballot)
IsOf txn ballot (accepted other taken) = (other ≡ txn) × (taken ≡ ballot)

-- The proposer and a majority are up, no decider promises a higher ballot, and each message of this ballot is delivered.
pub record IsUndisturbed (setup : Setup) (members : ℕ → Bool) (n : ℕ) (txn : TxnId) (ballot : Ballot) (world : World) (numbers : List ℕ) : Type 0 where
  pub most : is_majority setup.deciders members ≡ true
  pub own : members n ≡ true
  pub within : (k : ℕ) → members k ≡ true → k < setup.deciders
  pub up : (k : ℕ) → members k ≡ true → (memory : List Entry) × ((decider_at world k).memory ≡ Some memory)
  pub unpassed : (k : ℕ) → is_passed ballot (promised txn (records_at (after_all setup world numbers) k)) ≡ false
  pub delivered : (envelope : Envelope) → Contains (after_all setup world numbers).sent envelope → IsOf txn ballot envelope.message
      → IsDelivered setup envelope world numbers

-- What is reported of a proposal in the end: a value is decided, the log of one of these deciders is full, or no ballot number is left.
pub data IsSettled (members : ℕ → Bool) (world : World) (n : ℕ) (txn : TxnId) : Type 0 where
  by_decision : (commits : Bool) → Contains world.lines (decided n txn commits) → IsSettled members world n txn
  by_full_log : (k length : ℕ) → members k ≡ true → Contains world.lines (full k length) → IsSettled members world n txn
  by_last_number : Contains world.lines (spent n) → IsSettled members world n txn
