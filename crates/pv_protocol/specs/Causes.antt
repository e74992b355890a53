-- The cause of each refusal.
use Rattle.std.specs.Prelude.{◌≡◌, ℕ, ◌+◌, ◌<◌, ◌≤◌, true, false, Some, List, ◌++◌, length, ◌⊎◌, All, Contains, IsTrue}
use Rattle.std.specs.List.{list_any}
use Rattle.pv_base.specs.Named.{names_of}
use Rattle.pv_base.specs.Polyvalue.{AreNames}
use Rattle.pv_base.specs.declared.grant.GrantId.{GrantId}
use Rattle.pv_base.specs.declared.txn.TxnId.{TxnId}
use Rattle.pv_format.specs.Message.{granted, prepare, vote_yes}
use Rattle.pv_format.specs.Record.{Record, prepared, outcome_known}
use Rattle.pv_model.specs.Alternatives.{Read, all_cases}
use Rattle.pv_model.specs.Check.{requires_certain}
use Rattle.pv_protocol.specs.Committed.{home_of, entry_of, is_grant}
use Rattle.pv_protocol.specs.Conflicts.{WasDenied}
use Rattle.pv_protocol.specs.Coordinate.{reads_of, settled_value, value_taken}
use Rattle.pv_protocol.specs.Granted.{taking}
use Rattle.pv_protocol.specs.Lines.{Line}
use Rattle.pv_protocol.specs.Outcomes.{IsOut}
use Rattle.pv_protocol.specs.Places.{Place, world_before, Takes}
use Rattle.pv_protocol.specs.Records.{is_prepared, record_bytes, journal_bytes}
use Rattle.pv_protocol.specs.Run.{world_after, worlds_of}
use Rattle.pv_protocol.specs.State.{Setup, locking, Entry, Cause, conflict, outcome_limit, uncertain, expired, grant_lost, journal_full}
use Rattle.pv_protocol.specs.Waiting.{IsParticipant, HasAnswered, IsLastTick}
use Rattle.pv_protocol.specs.World.{World, site_at}
use Rattle.pv_protocol.specs.WorldStep.{Transition}

-- In this transition the last values are taken: those of every other participant were.
pub record TakesLast (setup : Setup) (world : World) (transition : Transition) (txn : TxnId) : Type 0 where
  pub from : ℕ
  pub grant : GrantId
  pub values : List Read
  pub takes : Takes world transition (home_of txn) from (granted txn grant values)
  pub entry : Entry
  pub works : entry_of world txn ≡ Some entry
  pub stage : entry.stage ≡ locking
  pub others : (n : ℕ) → IsParticipant setup.catalog entry.program n → (n ≡ from) ⊎ HasAnswered locking entry n

-- In this transition the last values are taken. Together they name so many outcomes, which is more than the limit.
pub record IsTooWide (setup : Setup) (world : World) (transition : Transition) (txn : TxnId) (count : ℕ) : Type 0 where
  pub last : TakesLast setup world transition txn
  pub txns : List TxnId
  pub are : AreNames (all_cases (reads_of last.entry ++ last.values)) txns
  pub number : count ≡ length txns
  pub above : setup.read_names < count

-- The entry's program requires that the item be certain. The value that was taken of it, with the outcomes put in that the records tell, names so many.
pub record IsInDoubt (records : List Record) (entry : Entry) (item count : ℕ) : Type 0 where
  pub required : IsTrue (requires_certain entry.program item)
  pub read : Read
  pub taken : value_taken entry item ≡ Some read
  pub number : count ≡ length (names_of (settled_value records read.cases))
  pub some : 1 ≤ count

-- In this transition the last values are taken. With the outcomes put in that are known at the transaction's site, so many are left on which the value
-- of this item depends, the least that has to be certain and isn't.
pub record IsUncertain (setup : Setup) (world : World) (transition : Transition) (txn : TxnId) (item count : ℕ) : Type 0 where
  pub last : TakesLast setup world transition txn
  pub doubt : IsInDoubt (site_at world (home_of txn)).records (taking last.entry last.from last.grant last.values) item count
  pub least : (other more : ℕ) → IsInDoubt (site_at world (home_of txn)).records (taking last.entry last.from last.grant last.values) other more → item ≤ other

-- The site took the request for its vote, where it neither had the transaction prepared nor that very grant.
pub record HadLost (first : World) (transitions : List Transition) (txn : TxnId) (n : ℕ) : Type 0 where
  pub place : Place transitions
  pub from : ℕ
  pub grant : GrantId
  pub writes : List Read
  pub takes : Takes (world_before first place) place.transition n from (prepare txn grant writes)
  pub unprepared : is_prepared (site_at (world_before first place) n).records txn ≡ false
  pub gone : list_any (is_grant txn grant) takes.running.grants ≡ false

-- The site's journal would have this length with the record, above its limit.
pub record IsTooLong (setup : Setup) (world : World) (n : ℕ) (more : Record) (bytes : ℕ) : Type 0 where
  pub sum : bytes ≡ journal_bytes (site_at world n).records + record_bytes more
  pub above : setup.catalog.journal < bytes

-- The site took the request for its vote, and its journal had no room for the writes.
pub record HadNoRoom (setup : Setup) (first : World) (transitions : List Transition) (txn : TxnId) (n bytes : ℕ) : Type 0 where
  pub place : Place transitions
  pub from : ℕ
  pub grant : GrantId
  pub writes : List Read
  pub takes : Takes (world_before first place) place.transition n from (prepare txn grant writes)
  pub long : IsTooLong setup (world_before first place) n (prepared txn writes) bytes

-- The transaction's own site takes a yes in this transition, and its journal has no room for the commit.
pub record HasNoRoom (setup : Setup) (world : World) (transition : Transition) (txn : TxnId) (n bytes : ℕ) : Type 0 where
  pub here : n ≡ home_of txn
  pub from : ℕ
  pub takes : Takes world transition n from (vote_yes txn)
  pub long : IsTooLong setup world n (outcome_known txn true) bytes

-- The transaction is refused in this transition, after these others, for this cause.
abbrev pub HasCause : Setup → World → List Transition → Transition → TxnId → Cause → Type 0
HasCause setup first earlier transition txn (conflict n item holder) = WasDenied first earlier txn n item holder
HasCause setup first earlier transition txn (outcome_limit count) = IsTooWide setup (world_after first earlier) transition txn count
HasCause setup first earlier transition txn (uncertain item count) = IsUncertain setup (world_after first earlier) transition txn item count
HasCause setup first earlier transition txn (expired n) = IsLastTick setup first earlier transition txn n
HasCause setup first earlier transition txn (grant_lost n) = HadLost first earlier txn n
HasCause setup first earlier transition txn (journal_full n bytes) =
    HadNoRoom setup first earlier txn n bytes ⊎ HasNoRoom setup (world_after first earlier) transition txn n bytes

-- A transaction that a run prints as refused is neither committed nor open, in that world and in every later one, and the
-- refusal has its cause.
abbrev pub RefusalsHold : Setup → World → List Transition → Type 0
RefusalsHold setup first transitions =
    (place : Place transitions) (txn : TxnId) (cause : Cause) → Contains place.transition.lines (Line.refuse txn cause)
    → All (IsOut txn) (worlds_of place.transition.world place.later) × HasCause setup first place.earlier place.transition txn cause
