-- The claim that a printed report agrees with the serial run of its order.
use Rattle.std.specs.Prelude.{◌≡◌, Some, ⊤, List, ◌++◌, All, IsTrue}
use Rattle.pv_audit.specs.Reports.{Report, order_of, is_in}
use Rattle.pv_base.specs.Catalog.{Declared}
use Rattle.pv_base.specs.Polyvalue.{value_at}
use Rattle.pv_base.specs.declared.txn.TxnId.{TxnId}
use Rattle.pv_model.specs.Meaning.{Row, value_in}
use Rattle.pv_model.specs.Serial.{declared_rows, serial}
use Rattle.pv_protocol.specs.Lines.{Line}

-- the assignment by which the committed transactions commit, and these open ones
abbrev pub with_committed : Report → List TxnId → List TxnId
with_committed told txns = told.committed ++ txns

-- the rows that the serial run of the report's order leaves at the assignment
abbrev pub serial_rows : Declared → Report → List TxnId → List Row
serial_rows catalog told assignment = serial (declared_rows catalog) (order_of told) assignment

-- A printed item has, where these open transactions commit, the value that the serial run leaves it. An item that isn't readable has no value.
abbrev pub LineAgrees : Declared → Report → List TxnId → Line → Type 0
LineAgrees catalog told txns (Line.item n cases) =
    value_at cases (with_committed told txns) ≡ Some (value_in (serial_rows catalog told (with_committed told txns)) n)
LineAgrees catalog told txns line = ⊤

-- The transactions are open ones.
abbrev pub AreOpen : Report → List TxnId → Type 0
AreOpen told txns = All (λ txn. IsTrue (is_in told.open_ones txn)) txns

-- A printed report agrees where, for each assignment by which the committed transactions commit and some of the open ones, each printed item has the value
-- that the serial run leaves it.
abbrev pub ReportAgrees : Declared → Report → Type 0
ReportAgrees catalog told = (txns : List TxnId) → AreOpen told txns → All (LineAgrees catalog told txns) told.items
