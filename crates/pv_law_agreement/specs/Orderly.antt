-- What makes a world agree with the serial run.
use Rattle.std.specs.Prelude.{◌≡◌, ℕ, true, List, Contains, IsTrue}
use Rattle.pv_base.specs.declared.txn.TxnId.{TxnId}
use Rattle.pv_format.specs.Record.{prepared}
use Rattle.pv_law_acts.specs.Seen.{records_at, HoldsAgeless}
use Rattle.pv_law_agreement.specs.Places.{AreDistinct}
use Rattle.pv_law_agreement.specs.Promises.{ArePromised, AreInSequence}
use Rattle.pv_law_agreement.specs.Values.{AreAfter}
use Rattle.pv_law_values.specs.Heeds.{Heeds}
use Rattle.pv_model.specs.Alternatives.{Read}
use Rattle.pv_model.specs.Plan.{wants_of, participants_of}
use Rattle.pv_protocol.specs.Committed.{Fits, is_committed}
use Rattle.pv_protocol.specs.Records.{is_prepared}
use Rattle.pv_protocol.specs.State.{Setup, Grant, TakenGrant, Placed}
use Rattle.pv_protocol.specs.World.{World}

module _ (setup : Setup) where
  -- Each participant of a place's program gave one of its grants.
  abbrev pub IsWhole : Placed → Type 0
  IsWhole placed = (site : ℕ) → Contains (participants_of placed.program setup.catalog.items) site → (taken : TakenGrant) × Contains placed.grants taken × (taken.site ≡ site)

  -- A committed transaction is in the order, and prepared at each participant.
  pub record IsPreparedByParticipants (world : World) (txn : TxnId) : Type 0 where
    pub placed : Placed
    pub in_order : Contains world.order placed
    pub is : placed.txn ≡ txn
    pub everywhere : (site : ℕ) → Contains (participants_of placed.program setup.catalog.items) site → is_prepared (records_at world site) txn ≡ true

  -- The places of the order, the promises and grants of its transactions, and what is promised.
  pub record IsOrderly (world : World) : Type 0 where
    pub distinct : AreDistinct world.order
    pub whole : (placed : Placed) → Contains world.order placed → IsWhole placed
    pub promised : (site : ℕ) (txn : TxnId) (writes : List Read) → Contains (records_at world site) (prepared txn writes)
        → ArePromised setup.catalog world.order site txn writes
    pub wants : (site : ℕ) (placed : Placed) (grant : Grant) → Contains world.order placed → HoldsAgeless world site grant → grant.txn ≡ placed.txn
        → grant.wants ≡ wants_of placed.program setup.catalog.items site
    pub committed : (txn : TxnId) → IsTrue (is_committed world txn) → IsPreparedByParticipants world txn
    pub heeded : (assignment : List TxnId) → Fits world assignment → (site : ℕ) → Heeds (records_at world site) assignment
    pub sequence : (site : ℕ) → AreInSequence world.order (records_at world site)
    pub values : (site : ℕ) (txn : TxnId) (writes : List Read) → Contains (records_at world site) (prepared txn writes) → AreAfter setup.catalog world txn writes
