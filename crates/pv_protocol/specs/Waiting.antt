-- When a transaction was refused because a participant didn't answer in time.
use Rattle.std.specs.Prelude.{◌≡◌, ℕ, ◌+◌, ◌≤◌, Bool, false, ◌==◌, Some, List, map, count_by, All, Contains, IsTrue}
use Rattle.pv_base.specs.Catalog.{Declared}
use Rattle.pv_base.specs.declared.limits.TheConstants.{TICKS}
use Rattle.pv_base.specs.declared.txn.TxnId.{TxnId}
use Rattle.pv_model.specs.Check.{names_item, IsAt}
use Rattle.pv_model.specs.Events.{Event}
use Rattle.pv_model.specs.Syntax.{Program}
use Rattle.pv_protocol.specs.Committed.{home_of, entry_of}
use Rattle.pv_protocol.specs.Places.{Place, world_before}
use Rattle.pv_protocol.specs.Run.{world_after, worlds_of}
use Rattle.pv_protocol.specs.State.{Setup, Stage, locking, voting, Entry}
use Rattle.pv_protocol.specs.World.{World}
use Rattle.pv_protocol.specs.WorldStep.{Transition}

-- The transaction's site works on it, in this stage.
pub record IsInStage (txn : TxnId) (stage : Stage) (world : World) : Type 0 where
  pub entry : Entry
  pub works : entry_of world txn ≡ Some entry
  pub is : entry.stage ≡ stage

-- The event is a tick of the site.
abbrev pub is_tick_of : ℕ → Event → Bool
is_tick_of n (Event.tick site) = site == n
is_tick_of n other = false

-- how many of the transitions are ticks of the site
abbrev pub ticks_of : ℕ → List Transition → ℕ
ticks_of n transitions = count_by (λ transition. is_tick_of n transition.event) transitions

-- The transaction came into this stage in a transition and has been in it ever since, while its site ticked so many times.
pub record HasWaited (first : World) (transitions : List Transition) (txn : TxnId) (stage : Stage) (ticks : ℕ) : Type 0 where
  pub begin : Place transitions
  pub not_before : IsInStage txn stage (world_before first begin) → ⊥
  pub since : All (IsInStage txn stage) (worlds_of begin.transition.world begin.later)
  pub counted : ticks_of (home_of txn) begin.later ≡ ticks

-- The site owns an item of the program.
pub record IsParticipant (catalog : Declared) (program : Program) (n : ℕ) : Type 0 where
  pub item : ℕ
  pub named : IsTrue (names_item program item)
  pub home : IsAt catalog.items item n

-- The site gave what the stage waits for: its grant, or its vote.
abbrev pub HasAnswered : Stage → Entry → ℕ → Type 0
HasAnswered locking entry n = Contains (map (λ taken. taken.site) entry.taken) n
HasAnswered voting entry n = Contains entry.votes n

-- The least participant that hasn't answered.
pub record IsAwaited (catalog : Declared) (entry : Entry) (n : ℕ) : Type 0 where
  pub participant : IsParticipant catalog entry.program n
  pub silent : HasAnswered entry.stage entry n → ⊥
  pub least : (other : ℕ) → IsParticipant catalog entry.program other → (HasAnswered entry.stage entry other → ⊥) → n ≤ other

-- The transition is the last tick that the coordinator waits, counted from where the stage began.
pub record IsLastTick (setup : Setup) (first : World) (transitions : List Transition) (transition : Transition) (txn : TxnId) (n : ℕ) : Type 0 where
  pub event : transition.event ≡ Event.tick (home_of txn)
  pub entry : Entry
  pub works : entry_of (world_after first transitions) txn ≡ Some entry
  pub ticks : ℕ
  pub waited : HasWaited first transitions txn entry.stage ticks
  pub last : ticks + 1 ≡ TICKS
  pub awaited : IsAwaited setup.catalog entry n
