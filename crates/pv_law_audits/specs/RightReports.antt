-- Reports that are right, what a world reports, and what an audit of right reports may answer.
use Rattle.std.specs.Prelude.{◌≡◌, ℕ, ℤ, false, Some, None, List, filter, ◌⊎◌, All, Contains}
use Rattle.pv_audit.specs.Agreement.{ReportAgrees}
use Rattle.pv_audit.specs.Findings.{Verdict, all_agree, at_report, limit}
use Rattle.pv_audit.specs.Reports.{Report, misplaced, reports, request_of, stands_twice}
use Rattle.pv_audit.specs.Traces.{Trace}
use Rattle.pv_base.specs.Catalog.{Declared}
use Rattle.pv_base.specs.Polyvalue.{Case, value_at}
use Rattle.pv_base.specs.declared.txn.TxnId.{TxnId}
use Rattle.pv_law_answers.specs.Orders.{committed_in}
use Rattle.pv_model.specs.Meaning.{value_in}
use Rattle.pv_model.specs.Serial.{Ordered}
use Rattle.pv_protocol.specs.Committed.{Fits, is_open, serial_rows}
use Rattle.pv_protocol.specs.Lines.{Line}
use Rattle.pv_protocol.specs.Report.{txns_in_order}
use Rattle.pv_protocol.specs.State.{Placed, Setup}
use Rattle.pv_protocol.specs.World.{World}

-- The report has each transaction in its place, and agrees.
pub record IsRight (catalog : Declared) (told : Report) : Type 0 where
  pub placed : misplaced told ≡ None
  pub agrees : ReportAgrees catalog told

-- The reports of the trace are right.
abbrev pub AreRight : Trace → Type 0
AreRight trace = All (IsRight trace.catalog) (reports trace)

-- The audit found that all agree, or that a limit is passed.
abbrev pub IsPassed : Verdict → Type 0
IsPassed verdict = ((count : ℕ) × (verdict ≡ all_agree count)) ⊎ ((number : ℕ) × (names : ℕ) × (verdict ≡ at_report number (limit names)))

-- Each transaction of the order stands there once, and has the program of the first of these requests that began it.
pub record IsOfRequests (begun : List Ordered) (order : List Placed) : Type 0 where
  pub once : All (λ placed. stands_twice (txns_in_order order) placed.txn ≡ false) order
  pub own : All (λ placed. request_of begun placed.txn ≡ Some (record { txn = placed.txn; program = placed.program })) order

-- what a report prints in this world, behind these requests and with these lines of items
abbrev pub told_in : World → List Ordered → List Line → Report
told_in world begun items = record {
  begun = begun;
  ordered = txns_in_order world.order;
  committed = committed_in world;
  open_ones = txns_in_order (filter (is_open world) world.order);
  items = items;
}

-- The lines print of each item, at each assignment that fits the world, the value that the serial run leaves it.
abbrev pub ShowSerialValues : Setup → World → List Line → Type 0
ShowSerialValues setup world lines =
    (n : ℕ) (cases : List (Case ℤ)) → Contains lines (Line.item n cases) → (assignment : List TxnId) → Fits world assignment
    → value_at cases assignment ≡ Some (value_in (serial_rows setup world assignment) n)
