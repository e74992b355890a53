-- The layer of values: what is read and written is what the serial run reads and writes.
use Rattle.std.specs.Prelude.{◌≡◌, ℕ, ℤ, false, List, Contains, Some}
use Rattle.pv_base.specs.Polyvalue.{Case}
use Rattle.pv_base.specs.declared.grant.GrantId.{GrantId}
use Rattle.pv_base.specs.declared.txn.TxnId.{TxnId}
use Rattle.pv_format.specs.Message.{granted, prepare}
use Rattle.pv_format.specs.Record.{prepared}
use Rattle.pv_law_acts.specs.Seen.{records_at, HoldsAgeless, WorksAgeless, Sent}
use Rattle.pv_law_agreement.specs.Values.{AreBefore, AreAfter}
use Rattle.pv_law_values.specs.Heeds.{Heeds}
use Rattle.pv_model.specs.Alternatives.{Read, number_at}
use Rattle.pv_protocol.specs.Records.{is_prepared}
use Rattle.pv_protocol.specs.Shown.{written, item_value}
use Rattle.pv_protocol.specs.State.{Setup, Grant, voting, Taken, Entry}
use Rattle.pv_protocol.specs.World.{World}

module _ (setup : Setup) (world : World) where
  -- At assignments that heed the site's records the values are those of the items by these records.
  abbrev pub AreCurrent : ℕ → List Read → Type 0
  AreCurrent n values =
      (assignment : List TxnId) → Heeds (records_at world n) assignment → (item : ℕ) (cases : List (Case ℤ)) → written item values ≡ Some cases
      → number_at cases assignment ≡ item_value setup.catalog (records_at world n) item assignment

  -- What was reported with a grant is current as long as the grant stands and its transaction isn't prepared. From the lock point on, what
  -- was taken is what the serial run has before the transaction; and what is asked for and promised is what it leaves.
  pub record IsSerialized : Type 0 where
    pub reported : (from to : ℕ) (txn : TxnId) (id : GrantId) (values : List Read) → Sent world from to (granted txn id values)
        → (grant : Grant) → HoldsAgeless world from grant → grant.txn ≡ txn → grant.id ≡ id → is_prepared (records_at world from) txn ≡ false → AreCurrent from values
    pub taken : (n : ℕ) (txn : TxnId) (entry : Entry) → WorksAgeless world n txn entry → entry.stage ≡ voting → (taken : Taken) → Contains entry.taken taken
        → AreBefore setup.catalog world txn taken.values
    pub asked : (from to : ℕ) (txn : TxnId) (id : GrantId) (writes : List Read) → Sent world from to (prepare txn id writes)
        → AreAfter setup.catalog world txn writes
    pub promised : (n : ℕ) (txn : TxnId) (writes : List Read) → Contains (records_at world n) (prepared txn writes)
        → AreAfter setup.catalog world txn writes
