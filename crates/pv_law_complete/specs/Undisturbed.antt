-- When nothing comes between a transaction and its commit.
use Rattle.std.specs.Prelude.{◌≡◌, ℕ, ◌<◌, ◌≤◌, Bool, true, false, ◌==◌, Some, None, List, [], ◌∷◌, ◌++◌, length, slice_get, ◌⊎◌, ⊤, All, Contains, IsSome, IsTrue}
use Rattle.pv_base.specs.declared.limits.TheConstants.{NEVER_GIVEN}
use Rattle.pv_base.specs.declared.txn.TxnId.{TxnId}
use Rattle.pv_format.specs.Message.{Envelope, Message, lock, granted, denied, prepare, vote_yes, vote_no, outcome_reported, ask, txn_of}
use Rattle.pv_format.specs.Record.{prepared, outcome_known}
use Rattle.pv_law_acts.specs.Seen.{records_at, memory_at}
use Rattle.pv_model.specs.Events.{Event}
use Rattle.pv_model.specs.Plan.{participants_of}
use Rattle.pv_model.specs.Syntax.{Program}
use Rattle.pv_protocol.specs.Committed.{home_of, is_committed}
use Rattle.pv_protocol.specs.Coordinate.{locking_entry, voting_entry, has_all_grants, names_taken, is_uncertain}
use Rattle.pv_protocol.specs.Granted.{is_grant_ignored, taking}
use Rattle.pv_protocol.specs.Here.{Here, grant_of, is_full}
use Rattle.pv_protocol.specs.Lock.{first_conflict}
use Rattle.pv_protocol.specs.Places.{Place, Takes, world_before}
use Rattle.pv_protocol.specs.Records.{is_prepared}
use Rattle.pv_protocol.specs.Run.{world_after, worlds_of}
use Rattle.pv_protocol.specs.State.{Setup, Entry, Running}
use Rattle.pv_protocol.specs.Vote.{is_vote_ignored}
use Rattle.pv_protocol.specs.Waiting.{is_tick_of}
use Rattle.pv_protocol.specs.World.{World}
use Rattle.pv_protocol.specs.WorldStep.{Transition}

-- what the site of this number looks at in a step
abbrev pub here_in : Setup → World → ℕ → Running → Here
here_in setup world n running = record { me = n; setup = setup; records = records_at world n; surplus = 0; running = running }

-- The site coordinates the transaction, or takes part in it.
abbrev pub IsConcerned : Setup → TxnId → Program → ℕ → Type 0
IsConcerned setup txn program n = (n ≡ home_of txn) ⊎ Contains (participants_of program setup.catalog.items) n

-- In the transition the transaction is submitted: its site is up, is given the program, and the next number is the transaction's.
pub record IsSubmitted (setup : Setup) (world : World) (transition : Transition) (txn : TxnId) (program : Program) : Type 0 where
  pub query : Bool
  pub text : List ℕ
  pub event : transition.event ≡ Event.submit (home_of txn) query text program
  pub running : Running
  pub up : memory_at world (home_of txn) ≡ Some running
  pub epoch : txn.epoch ≡ running.epoch
  pub number : txn.number ≡ running.next_txn
  pub left : (running.next_txn == NEVER_GIVEN) ≡ false

-- Each item that the entry's program requires to be certain is.
abbrev pub AreCertain : Here → Entry → Type 0
AreCertain here entry = (item : ℕ) → item < length here.setup.catalog.items → is_uncertain here.records entry item ≡ false

-- The site takes the message without a conflict, a spent number, values that name too much or aren't certain as they have to be, or a journal at its
-- limit.
abbrev pub IsFree : Here → ℕ → Message → Type 0
IsFree here from (lock txn wants) =
    grant_of here.running txn ≡ None → (first_conflict here.running.grants wants ≡ None) × ((here.running.next_grant == NEVER_GIVEN) ≡ false)
IsFree here from (granted txn id values) =
    (entry : Entry) → locking_entry here.running txn ≡ Some entry → is_grant_ignored here entry from values ≡ false
    → (length (names_taken (taking entry from id values)) ≤ here.setup.read_names)
    × (has_all_grants here (taking entry from id values) ≡ true → AreCertain here (taking entry from id values))
IsFree here from (denied txn item holder) = ⊤
IsFree here from (prepare txn id writes) = is_prepared here.records txn ≡ false → is_full here (prepared txn writes) ≡ false
IsFree here from (vote_yes txn) =
    (entry : Entry) → voting_entry here.running txn ≡ Some entry → is_vote_ignored here entry from ≡ false → is_full here (outcome_known txn true) ≡ false
IsFree here from (vote_no txn cause) = ⊤
IsFree here from (outcome_reported txn commits) = ⊤
IsFree here from (ask txn) = ⊤

-- In the transition no site that is concerned ticks, and each is up after it; and each message of the transaction is taken freely.
pub record IsCalm (setup : Setup) (txn : TxnId) (program : Program) (world : World) (transition : Transition) : Type 0 where
  pub up : (n : ℕ) → IsConcerned setup txn program n → IsSome (memory_at transition.world n)
  pub timeless : (n : ℕ) → IsConcerned setup txn program n → is_tick_of n transition.event ≡ false
  pub free : (n from : ℕ) (message : Message) (takes : Takes world transition n from message) → txn_of message ≡ txn
      → IsFree (here_in setup world n takes.running) from message

-- So are all transitions from this world on, until the transaction commits.
abbrev pub AreCalm : Setup → TxnId → Program → World → List Transition → Type 0
AreCalm setup txn program world [] = ⊤
AreCalm setup txn program world (transition ∷ later) =
    (is_committed transition.world txn ≡ false → IsCalm setup txn program world transition) × AreCalm setup txn program transition.world later

-- The message of this number is delivered after it was sent.
abbrev pub IsDelivered : World → List Transition → ℕ → Envelope → Type 0
IsDelivered first later number envelope =
    (place : Place later) × ((place.transition.event ≡ Event.deliver number) × (slice_get (world_before first place).sent number ≡ Some envelope))

-- Each message of the transaction that is sent before it commits is delivered after that.
abbrev pub AreDelivered : TxnId → World → List Transition → Type 0
AreDelivered txn first later =
    (world : World) → Contains (worlds_of first later) world → is_committed world txn ≡ false
    → (number : ℕ) (envelope : Envelope) → slice_get world.sent number ≡ Some envelope → txn_of envelope.message ≡ txn → IsDelivered first later number envelope

-- The transaction of this program is submitted in the transition, with all sites up that are concerned; and then nothing comes between it
-- and its commit.
pub record IsUndisturbed (setup : Setup) (txn : TxnId) (program : Program) (world : World) (transition : Transition) (later : List Transition) : Type 0 where
  pub submitted : IsSubmitted setup world transition txn program
  pub up : (n : ℕ) → IsConcerned setup txn program n → IsSome (memory_at world n)
  pub up_then : (n : ℕ) → IsConcerned setup txn program n → IsSome (memory_at transition.world n)
  pub calm : AreCalm setup txn program transition.world later
  pub delivered : AreDelivered txn transition.world later

-- A transaction that nothing disturbs, in some transitions from its submission on, is committed after them and in every later world.
abbrev pub UndisturbedCommit : Setup → World → List Transition → Type 0
UndisturbedCommit setup first transitions =
    (place : Place transitions) (window rest : List Transition) → place.later ≡ window ++ rest → (txn : TxnId) (program : Program)
    → IsUndisturbed setup txn program (world_before first place) place.transition window
    → All (λ world. IsTrue (is_committed world txn)) (worlds_of (world_after place.transition.world window) rest)
