-- The layer of what values depend on: no value depends on a transaction that isn't in the order.
use Rattle.std.specs.Prelude.{ℕ, List, Contains}
use Rattle.pv_base.specs.Assignment.{commits}
use Rattle.pv_base.specs.declared.grant.GrantId.{GrantId}
use Rattle.pv_base.specs.declared.txn.TxnId.{TxnId}
use Rattle.pv_format.specs.Message.{granted, prepare}
use Rattle.pv_format.specs.Record.{prepared}
use Rattle.pv_law_acts.specs.Seen.{records_at, WorksAgeless, Sent}
use Rattle.pv_law_agreement.specs.Places.{txns_of}
use Rattle.pv_law_values.specs.Fixed.{AreFixedBy}
use Rattle.pv_model.specs.Alternatives.{Read}
use Rattle.pv_protocol.specs.State.{Taken, Entry}
use Rattle.pv_protocol.specs.World.{World}

module _ (world : World) where
  -- The values depend on transactions of the order alone.
  abbrev pub AreOfOrder : List Read → Type 0
  AreOfOrder reads = AreFixedBy (commits (txns_of world.order)) reads

  -- All that is reported, taken, asked and promised does.
  pub record IsSupported : Type 0 where
    pub reported : (from to : ℕ) (txn : TxnId) (id : GrantId) (values : List Read) → Sent world from to (granted txn id values) → AreOfOrder values
    pub taken : (n : ℕ) (txn : TxnId) (entry : Entry) → WorksAgeless world n txn entry → (taken : Taken) → Contains entry.taken taken → AreOfOrder taken.values
    pub asked : (from to : ℕ) (txn : TxnId) (id : GrantId) (writes : List Read) → Sent world from to (prepare txn id writes) → AreOfOrder writes
    pub promised : (n : ℕ) (txn : TxnId) (writes : List Read) → Contains (records_at world n) (prepared txn writes) → AreOfOrder writes
