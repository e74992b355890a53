-- How grants, entries, messages, records and the order of a world fit together.
use Rattle.std.specs.Prelude.{◌≡◌, ℕ, true, List, ◌∷◌, ◌++◌, map, Contains, ⊤}
use Rattle.pv_base.specs.Want.{Want}
use Rattle.pv_base.specs.declared.grant.GrantId.{GrantId}
use Rattle.pv_base.specs.declared.txn.TxnId.{TxnId}
use Rattle.pv_format.specs.Message.{Message, lock, granted, denied, prepare, vote_yes, vote_no, outcome_reported, ask}
use Rattle.pv_format.specs.Record.{Record, epoch_begun, prepared, outcome_known}
use Rattle.pv_law_acts.specs.Seen.{records_at, HoldsAgeless, WorksAgeless, Sent, parts_of, wants_at, place_in_order, AreCompatible}
use Rattle.pv_model.specs.Alternatives.{Read}
use Rattle.pv_model.specs.Plan.{participants_of, wants_of}
use Rattle.pv_model.specs.Syntax.{Program}
use Rattle.pv_protocol.specs.Committed.{home_of}
use Rattle.pv_protocol.specs.Coordinate.{exclusive_items}
use Rattle.pv_protocol.specs.Here.{is_among}
use Rattle.pv_protocol.specs.Records.{is_prepared}
use Rattle.pv_protocol.specs.State.{Setup, locking, voting, Grant, Taken, Entry, TakenGrant, Placed}
use Rattle.pv_protocol.specs.WellFormed.{CanRun}
use Rattle.pv_protocol.specs.World.{World}

-- the items of values
abbrev pub items_of : List Read → List ℕ
items_of reads = map (λ read. read.item) reads

-- the items of wants
abbrev pub wanted_items : List Want → List ℕ
wanted_items wants = map (λ want. want.item) wants

-- The wants are what the program wants of this site, which is a participant.
pub record AreWantsOf (setup : Setup) (program : Program) (n : ℕ) (wants : List Want) : Type 0 where
  pub participant : is_among (participants_of program setup.catalog.items) n ≡ true
  pub are : wants ≡ wants_of program setup.catalog.items n

-- What a coordinator took from a participant is what the participant granted, of the items that were asked for.
pub record IsTakenFrom (setup : Setup) (world : World) (n : ℕ) (txn : TxnId) (entry : Entry) (taken : Taken) : Type 0 where
  pub participant : is_among (parts_of setup entry) taken.site ≡ true
  pub reported : Sent world taken.site n (granted txn taken.grant taken.values)
  pub items : items_of taken.values ≡ wanted_items (wants_at setup entry taken.site)

-- A vote that was counted is of a participant that is prepared.
pub record IsCountedVote (setup : Setup) (world : World) (txn : TxnId) (entry : Entry) (n : ℕ) : Type 0 where
  pub participant : is_among (parts_of setup entry) n ≡ true
  pub prepared : is_prepared (records_at world n) txn ≡ true

-- An entry is of a program that can run. Its transaction is in the order exactly where it asks for votes, with what was taken; and
-- what was taken, one grant of each participant at most, and which votes were counted is right.
pub record IsEntryRight (setup : Setup) (world : World) (n : ℕ) (txn : TxnId) (entry : Entry) : Type 0 where
  pub runs : CanRun setup.catalog entry.program
  pub unplaced : entry.stage ≡ locking → (placed : Placed) → Contains world.order placed → placed.txn ≡ txn → ⊥
  pub in_order : entry.stage ≡ voting → Contains world.order (place_in_order entry)
  pub taken : (taken : Taken) → Contains entry.taken taken → IsTakenFrom setup world n txn entry taken
  pub one : (taken other : Taken) → Contains entry.taken taken → Contains entry.taken other → taken.site ≡ other.site → taken ≡ other
  pub votes : (from : ℕ) → Contains entry.votes from → IsCountedVote setup world txn entry from

-- A transaction of the order has taken one grant of each participant of its program, and no other.
pub record IsPlaceRight (setup : Setup) (placed : Placed) : Type 0 where
  pub runs : CanRun setup.catalog placed.program
  pub whole : (n : ℕ) → is_among (participants_of placed.program setup.catalog.items) n ≡ true
      → (id : GrantId) × Contains placed.grants (record { site = n; grant = id })
  pub only : (taken : TakenGrant) → Contains placed.grants taken → is_among (participants_of placed.program setup.catalog.items) taken.site ≡ true
  pub one : (taken other : TakenGrant) → Contains placed.grants taken → Contains placed.grants other → taken.site ≡ other.site → taken ≡ other

-- The transaction is in the order with this grant of the site, and these are its items there that it may change.
pub record IsWriting (setup : Setup) (world : World) (n : ℕ) (txn : TxnId) (id : GrantId) (writes : List Read) : Type 0 where
  pub placed : Placed
  pub in_order : Contains world.order placed
  pub own : placed.txn ≡ txn
  pub granted : Contains placed.grants (record { site = n; grant = id })
  pub items : items_of writes ≡ exclusive_items (wants_of placed.program setup.catalog.items n)

-- A request for locks comes from its transaction's site. It is for what the transaction's program wants of the receiver, as far as the
-- order or the entry still tell of the program.
pub record IsLockRight (setup : Setup) (world : World) (from to : ℕ) (txn : TxnId) (wants : List Want) : Type 0 where
  pub home : from ≡ home_of txn
  pub placed : (placed : Placed) → Contains world.order placed → placed.txn ≡ txn → AreWantsOf setup placed.program to wants
  pub entry : (entry : Entry) → WorksAgeless world from txn entry → AreWantsOf setup entry.program to wants

-- A grant is reported to its transaction's site, which asked for it, with values of the items that it asked for.
pub record IsGrantedRight (world : World) (from to : ℕ) (txn : TxnId) (values : List Read) : Type 0 where
  pub home : to ≡ home_of txn
  pub wants : List Want
  pub asked : Sent world to from (lock txn wants)
  pub items : items_of values ≡ wanted_items wants

-- A vote is asked for by the transaction's site, under the grant that the order names, with new values of the items that the
-- transaction may change.
pub record IsPrepareRight (setup : Setup) (world : World) (from to : ℕ) (txn : TxnId) (id : GrantId) (writes : List Read) : Type 0 where
  pub home : from ≡ home_of txn
  pub writing : IsWriting setup world to txn id writes

-- A message is right.
abbrev pub IsMessageRight : Setup → World → (from to : ℕ) → Message → Type 0
IsMessageRight setup world from to (lock txn wants) = IsLockRight setup world from to txn wants
IsMessageRight setup world from to (granted txn id values) = IsGrantedRight world from to txn values
IsMessageRight setup world from to (denied txn item holder) = holder ≡ txn → ⊥
IsMessageRight setup world from to (prepare txn id writes) = IsPrepareRight setup world from to txn id writes
IsMessageRight setup world from to (vote_yes txn) = is_prepared (records_at world from) txn ≡ true
IsMessageRight setup world from to (vote_no txn cause) = ⊤
IsMessageRight setup world from to (outcome_reported txn commits) = ⊤
IsMessageRight setup world from to (ask txn) = ⊤

-- A promise is of a transaction of the order, for the items that it may change.
pub record IsPromiseRight (setup : Setup) (world : World) (n : ℕ) (txn : TxnId) (writes : List Read) : Type 0 where
  pub id : GrantId
  pub writing : IsWriting setup world n txn id writes

-- A record is right.
abbrev pub IsRecordRight : Setup → World → ℕ → Record → Type 0
IsRecordRight setup world n (epoch_begun epoch) = ⊤
IsRecordRight setup world n (prepared txn writes) = IsPromiseRight setup world n txn writes
IsRecordRight setup world n (outcome_known txn commits) = ⊤

-- No transaction stands in the order twice.
abbrev pub AreOnce : List Placed → Type 0
AreOnce order = (before after : List Placed) (placed other : Placed) → order ≡ before ++ placed ∷ after → Contains before other → other.txn ≡ placed.txn → ⊥

-- Grants, entries, messages, records and the order fit together.
pub record IsCoherent (setup : Setup) (world : World) : Type 0 where
  pub entries : (n : ℕ) (txn : TxnId) (entry : Entry) → WorksAgeless world n txn entry → IsEntryRight setup world n txn entry
  -- grants were asked for, and those of different transactions are compatible
  pub asked : (n : ℕ) (grant : Grant) → HoldsAgeless world n grant → Sent world (home_of grant.txn) n (lock grant.txn grant.wants)
  pub compatible : (n : ℕ) (grant other : Grant) → HoldsAgeless world n grant → HoldsAgeless world n other → (grant.txn ≡ other.txn → ⊥)
      → AreCompatible grant.wants other.wants
  pub sent : (from to : ℕ) (message : Message) → Sent world from to message → IsMessageRight setup world from to message
  -- what a transaction asks of a site is the same each time
  pub same_wants : (from to : ℕ) (txn : TxnId) (wants others : List Want) → Sent world from to (lock txn wants) → Sent world from to (lock txn others)
      → wants ≡ others
  pub records : (n : ℕ) (kept : Record) → Contains (records_at world n) kept → IsRecordRight setup world n kept
  pub places : (placed : Placed) → Contains world.order placed → IsPlaceRight setup placed
  pub same_place : (placed other : Placed) → Contains world.order placed → Contains world.order other → placed.txn ≡ other.txn → placed ≡ other
  pub once : AreOnce world.order
