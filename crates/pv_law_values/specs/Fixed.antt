-- What depends on the outcomes of the transactions of a set alone.
use Rattle.std.specs.Prelude.{◌≡◌, Bool, List, All, IsTrue, ⊤}
use Rattle.pv_base.specs.Assignment.{AgreeOn}
use Rattle.pv_base.specs.Polyvalue.{DependsOnlyOn}
use Rattle.pv_base.specs.declared.txn.TxnId.{TxnId}
use Rattle.pv_format.specs.Record.{Record, prepared}
use Rattle.pv_model.specs.Alternatives.{Read}

-- The function is the same at assignments that have the same outcomes of the transactions in this set.
abbrev pub IsFixedBy : {X : Type 0} → (TxnId → Bool) → (List TxnId → X) → Type 0
IsFixedBy set f = (assignment other : List TxnId) → AgreeOn set assignment other → f assignment ≡ f other

-- Each of these values depends on this set alone.
abbrev pub AreFixedBy : (TxnId → Bool) → List Read → Type 0
AreFixedBy set reads = All (λ read. DependsOnlyOn set read.cases) reads

-- If the record promises writes, it does so for a transaction of the set, and what it writes depends on the set alone.
abbrev pub IsRecordFixedBy : (TxnId → Bool) → Record → Type 0
IsRecordFixedBy set (prepared txn writes) = IsTrue (set txn) × AreFixedBy set writes
IsRecordFixedBy set other = ⊤
