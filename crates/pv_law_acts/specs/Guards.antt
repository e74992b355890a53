-- What each act needs.
use Rattle.std.specs.Prelude.{◌≡◌, ℕ, ◌<◌, Bool, true, false, Some, None, List, map, length, ⊤}
use Rattle.std.specs.List.{list_all}
use Rattle.pv_base.specs.Want.{Want}
use Rattle.pv_base.specs.declared.grant.GrantId.{GrantId}
use Rattle.pv_base.specs.declared.txn.TxnId.{TxnId}
use Rattle.pv_format.specs.Message.{Message, lock, granted, denied, prepare, vote_yes, vote_no, outcome_reported, ask}
use Rattle.pv_law_acts.specs.Seen.{records_at, memory_at, HoldsAgeless, WorksAgeless, Sent, parts_of, wants_at, IsDead}
use Rattle.pv_model.specs.Alternatives.{Read}
use Rattle.pv_model.specs.Syntax.{Program}
use Rattle.pv_protocol.specs.Committed.{home_of, is_committed}
use Rattle.pv_protocol.specs.Coordinate.{has_taken, exclusive_items, writes_to, are_values_of}
use Rattle.pv_protocol.specs.Granted.{taken_from}
use Rattle.pv_protocol.specs.Here.{is_among, grant_of}
use Rattle.pv_protocol.specs.Keyed.{of_txn}
use Rattle.pv_protocol.specs.Lock.{first_conflict}
use Rattle.pv_protocol.specs.Records.{is_prepared, is_undecided}
use Rattle.pv_protocol.specs.Shown.{shown}
use Rattle.pv_protocol.specs.State.{Setup, locking, voting, Taken, Entry, Running}
use Rattle.pv_protocol.specs.WellFormed.{CanRun}
use Rattle.pv_protocol.specs.World.{World}

-- The site is up with this in memory, and works on the transaction with this entry.
pub record IsAtWork (world : World) (n : ℕ) (txn : TxnId) (running : Running) (entry : Entry) : Type 0 where
  pub up : memory_at world n ≡ Some running
  pub has : of_txn (λ (e : Entry). e.txn) txn running.entries ≡ Some entry

-- A transaction of this program may begin.
pub record MayBegin (setup : Setup) (world : World) (n : ℕ) (running : Running) (program : Program) : Type 0 where
  pub up : memory_at world n ≡ Some running
  pub runs : CanRun setup.catalog program

-- The site may grant these locks: its coordinator asks for them, it has none here and isn't prepared, and nobody is in the way.
pub record MayGrant (world : World) (n : ℕ) (running : Running) (txn : TxnId) (wants : List Want) : Type 0 where
  pub up : memory_at world n ≡ Some running
  pub asked : Sent world (home_of txn) n (lock txn wants)
  pub none : grant_of running txn ≡ None
  pub unprepared : is_prepared (records_at world n) txn ≡ false
  pub free : first_conflict running.grants wants ≡ None

-- The coordinator may take this grant of a participant: it still asks for locks, has none of this participant, and was sent it.
pub record MayTake (setup : Setup) (world : World) (n : ℕ) (txn : TxnId) (entry : Entry) (taken : Taken) : Type 0 where
  pub asks : entry.stage ≡ locking
  pub participant : is_among (parts_of setup entry) taken.site ≡ true
  pub first : has_taken entry taken.site ≡ false
  pub reported : Sent world taken.site n (granted txn taken.grant taken.values)
  pub right : are_values_of (wants_at setup entry taken.site) taken.values ≡ true

-- The transaction may be at its lock point: the grants of all participants were taken.
pub record MayPlace (setup : Setup) (entry : Entry) : Type 0 where
  pub asks : entry.stage ≡ locking
  pub whole : list_all (has_taken entry) (parts_of setup entry) ≡ true

-- The coordinator may count a vote.
pub record MayCount (setup : Setup) (world : World) (n : ℕ) (txn : TxnId) (entry : Entry) (from : ℕ) : Type 0 where
  pub asks : entry.stage ≡ voting
  pub participant : is_among (parts_of setup entry) from ≡ true
  pub reported : Sent world from n (vote_yes txn)

-- The participant may promise these writes: its coordinator asks for the vote under a grant that stands.
pub record MayPromise (world : World) (n : ℕ) (txn : TxnId) (id : GrantId) (wants : List Want) (writes : List Read) : Type 0 where
  pub asked : Sent world (home_of txn) n (prepare txn id writes)
  pub holds : HoldsAgeless world n (record { txn = txn; id = id; wants = wants; age = 0 })
  pub unprepared : is_prepared (records_at world n) txn ≡ false

-- The coordinator may decide that the transaction commits: all participants voted.
pub record MayCommit (setup : Setup) (entry : Entry) : Type 0 where
  pub asks : entry.stage ≡ voting
  pub whole : list_all (is_among entry.votes) (parts_of setup entry) ≡ true

-- The site may record this outcome: the transaction's site reports it, and it isn't known.
pub record MayLearn (world : World) (n : ℕ) (txn : TxnId) (commits : Bool) : Type 0 where
  pub reported : Sent world (home_of txn) n (outcome_reported txn commits)
  pub unknown : is_undecided (records_at world n) txn ≡ true

-- The site may start: it is one of the world's, and down.
pub record MayStart (world : World) (n : ℕ) : Type 0 where
  pub within : n < length world.sites
  pub down : memory_at world n ≡ None

-- What a message needs that is sent.

-- A coordinator asks a participant for the locks that the program wants there.
pub record MaySendLock (setup : Setup) (world : World) (from to : ℕ) (txn : TxnId) (wants : List Want) : Type 0 where
  pub entry : Entry
  pub works : WorksAgeless world from txn entry
  pub participant : is_among (parts_of setup entry) to ≡ true
  pub wanted : wants ≡ wants_at setup entry to

-- The values are those that the site shows now.
abbrev pub AreShown : Setup → World → ℕ → List Want → List Read → Type 0
AreShown setup world n wants values =
    values ≡ map (λ (want : Want). record { item = want.item; cases = shown setup.catalog (records_at world n) want.item }) wants

-- A participant reports a grant that stands and isn't prepared under, with the values of now.
pub record MaySendGranted (setup : Setup) (world : World) (from to : ℕ) (txn : TxnId) (id : GrantId) (values : List Read) : Type 0 where
  pub wants : List Want
  pub holds : HoldsAgeless world from (record { txn = txn; id = id; wants = wants; age = 0 })
  pub home : to ≡ home_of txn
  pub unprepared : is_prepared (records_at world from) txn ≡ false
  pub shown_now : AreShown setup world from wants values

-- A participant denies what it was asked for, for another transaction.
pub record MaySendDenied (world : World) (from to : ℕ) (txn holder : TxnId) : Type 0 where
  pub wants : List Want
  pub asked : Sent world to from (lock txn wants)
  pub home : to ≡ home_of txn
  pub other : holder ≡ txn → ⊥

-- A coordinator asks a participant for its vote on the new values, under the grant that was taken.
pub record MaySendPrepare (setup : Setup) (world : World) (from to : ℕ) (txn : TxnId) (id : GrantId) (writes : List Read) : Type 0 where
  pub entry : Entry
  pub works : WorksAgeless world from txn entry
  pub asks : entry.stage ≡ voting
  pub participant : is_among (parts_of setup entry) to ≡ true
  pub reads : List Read
  pub taken : taken_from entry to ≡ Some (record { site = to; grant = id; values = reads })
  pub computed : writes ≡ writes_to (records_at world from) entry (exclusive_items (wants_at setup entry to))

-- A participant that is prepared votes yes.
pub record MaySendYes (world : World) (from to : ℕ) (txn : TxnId) : Type 0 where
  pub prepared : is_prepared (records_at world from) txn ≡ true
  pub home : to ≡ home_of txn

-- A participant votes no when it was asked for its vote.
pub record MaySendNo (world : World) (from to : ℕ) (txn : TxnId) : Type 0 where
  pub id : GrantId
  pub writes : List Read
  pub asked : Sent world to from (prepare txn id writes)
  pub home : to ≡ home_of txn

-- The transaction's site reports that it has committed, or that it never will.
abbrev pub HasOutcome : World → TxnId → Bool → Type 0
HasOutcome world txn true = is_committed world txn ≡ true
HasOutcome world txn false = IsDead world txn

pub record MaySendOutcome (world : World) (from : ℕ) (txn : TxnId) (commits : Bool) : Type 0 where
  pub home : from ≡ home_of txn
  pub outcome : HasOutcome world txn commits

-- The message may be sent.
abbrev pub MaySend : Setup → World → (from to : ℕ) → Message → Type 0
MaySend setup world from to (lock txn wants) = MaySendLock setup world from to txn wants
MaySend setup world from to (granted txn id values) = MaySendGranted setup world from to txn id values
MaySend setup world from to (denied txn item holder) = MaySendDenied world from to txn holder
MaySend setup world from to (prepare txn id writes) = MaySendPrepare setup world from to txn id writes
MaySend setup world from to (vote_yes txn) = MaySendYes world from to txn
MaySend setup world from to (vote_no txn cause) = MaySendNo world from to txn
MaySend setup world from to (outcome_reported txn commits) = MaySendOutcome world from txn commits
MaySend setup world from to (ask txn) = ⊤
