-- What sites hold, send and record in a world: all of it follows the order of the transactions and what was granted.
use Rattle.std.specs.Prelude.{◌≡◌, ℕ, false, List, map, Contains, IsTrue}
use Rattle.pv_base.specs.Assignment.{commits}
use Rattle.pv_base.specs.declared.grant.GrantId.{GrantId}
use Rattle.pv_base.specs.declared.txn.TxnId.{TxnId}
use Rattle.pv_format.specs.Message.{granted, prepare}
use Rattle.pv_format.specs.Record.{prepared}
use Rattle.pv_law_acts.specs.Seen.{records_at, HoldsAgeless, WorksAgeless, Sent, wants_at, place_in_order, IsGrantPassed, AreCompatible}
use Rattle.pv_law_agreement.specs.Orderly.{IsWhole, IsPreparedByParticipants}
use Rattle.pv_law_agreement.specs.Places.{txns_of, AreDistinct}
use Rattle.pv_law_agreement.specs.Promises.{ArePromised}
use Rattle.pv_law_values.specs.Heeds.{Heeds}
use Rattle.pv_model.specs.Alternatives.{Read}
use Rattle.pv_model.specs.Plan.{wants_of}
use Rattle.pv_protocol.specs.Committed.{Fits, home_of, is_committed}
use Rattle.pv_protocol.specs.Coordinate.{exclusive_items}
use Rattle.pv_protocol.specs.State.{Setup, Grant, locking, voting, Taken, Entry, TakenGrant, Placed}
use Rattle.pv_protocol.specs.WellFormed.{CanRun}
use Rattle.pv_protocol.specs.World.{World}

module _ (setup : Setup) (world : World) where
  -- What was taken from a participant was sent by it, and is of the items that were asked for.
  pub record IsRightlyTaken (n : ℕ) (txn : TxnId) (entry : Entry) (taken : Taken) : Type 0 where
    pub reported : Sent world taken.site n (granted txn taken.grant taken.values)
    pub items : map (λ value. value.item) taken.values ≡ map (λ want. want.item) (wants_at setup entry taken.site)

  -- An entry is of its site's own transaction, which isn't committed, of a program that can run, and in the order exactly where it asks for votes. Its grants
  -- are of what its program wants.
  pub record IsRightEntry (n : ℕ) (txn : TxnId) (entry : Entry) : Type 0 where
    pub home : home_of txn ≡ n
    pub is : entry.txn ≡ txn
    pub uncommitted : is_committed world txn ≡ false
    pub runs : CanRun setup.catalog entry.program
    pub placed : entry.stage ≡ voting → Contains world.order (place_in_order entry)
    pub unplaced : entry.stage ≡ locking → commits (txns_of world.order) txn ≡ false
    pub wants : (site : ℕ) (grant : Grant) → HoldsAgeless world site grant → grant.txn ≡ txn → grant.wants ≡ wants_at setup entry site
    pub taken : (taken : Taken) → Contains entry.taken taken → IsRightlyTaken n txn entry taken

  -- A vote is asked for of a transaction of the order, under the grant that it took there, on what it writes there.
  pub record IsRightlyAsked (to : ℕ) (txn : TxnId) (id : GrantId) (writes : List Read) : Type 0 where
    pub placed : Placed
    pub in_order : Contains world.order placed
    pub is : placed.txn ≡ txn
    pub took : Contains placed.grants (record { site = to; grant = id })
    pub items : map (λ write. write.item) writes ≡ exclusive_items (wants_of placed.program setup.catalog.items to)

  pub record HasGrounds : Type 0 where
    pub distinct : AreDistinct world.order
    pub whole : (placed : Placed) → Contains world.order placed → IsWhole setup placed
    pub entries : (n : ℕ) (txn : TxnId) (entry : Entry) → WorksAgeless world n txn entry → IsRightEntry n txn entry
    pub compatible : (n : ℕ) (grant other : Grant) → HoldsAgeless world n grant → HoldsAgeless world n other → (grant.txn ≡ other.txn → ⊥) → AreCompatible grant.wants other.wants
    pub wants : (n : ℕ) (placed : Placed) (grant : Grant) → Contains world.order placed → HoldsAgeless world n grant → grant.txn ≡ placed.txn
        → grant.wants ≡ wants_of placed.program setup.catalog.items n
    pub reported : (from to : ℕ) (txn : TxnId) (id : GrantId) (values : List Read) → Sent world from to (granted txn id values)
        → (grant : Grant) → HoldsAgeless world from grant → grant.txn ≡ txn → grant.id ≡ id → map (λ value. value.item) values ≡ map (λ want. want.item) grant.wants
    pub asked : (from to : ℕ) (txn : TxnId) (id : GrantId) (writes : List Read) → Sent world from to (prepare txn id writes) → IsRightlyAsked to txn id writes
    pub promised : (n : ℕ) (txn : TxnId) (writes : List Read) → Contains (records_at world n) (prepared txn writes)
        → ArePromised setup.catalog world.order n txn writes
    pub granted_passed : (from to : ℕ) (txn : TxnId) (id : GrantId) (values : List Read) → Sent world from to (granted txn id values) → IsGrantPassed world from id
    pub taken_passed : (placed : Placed) (taken : TakenGrant) → Contains world.order placed → Contains placed.grants taken → IsGrantPassed world taken.site taken.grant
    pub held_passed : (n : ℕ) (grant : Grant) → HoldsAgeless world n grant → IsGrantPassed world n grant.id
    pub committed : (txn : TxnId) → IsTrue (is_committed world txn) → IsPreparedByParticipants setup world txn
    pub heeded : (assignment : List TxnId) → Fits world assignment → (n : ℕ) → Heeds (records_at world n) assignment
