-- The reports of a trace, with the requests before each of them, and the order that a report prints, with programs.
use Rattle.std.specs.Prelude.{Bool, not, ◌&&◌, ◌||◌, List, [], ◌∷◌, ◌++◌, Option, Some, None, find, is_none, filter, length, nat_lt}
use Rattle.pv_audit.specs.Traces.{Trace, TracePart}
use Rattle.pv_base.specs.Assignment.{is_same_txn, commits}
use Rattle.pv_base.specs.declared.txn.TxnId.{TxnId}
use Rattle.pv_model.specs.Events.{Event, submit, report}
use Rattle.pv_model.specs.Serial.{Ordered}
use Rattle.pv_protocol.specs.Lines.{Line}

-- what a report prints, and the transactions that requests before it began, each with its program
pub record Report : Type 0 where
  pub begun : List Ordered
  pub ordered : List TxnId
  pub committed : List TxnId
  pub open_ones : List TxnId
  pub items : List Line

-- the transaction that a request began: its line says it
abbrev pub begun_by : Event → List Line → List Ordered
begun_by (submit site query text program) (Line.txn txn ∷ []) = record { txn = txn; program = program } ∷ []
begun_by event lines = []

-- the report that an event printed, after these requests
abbrev pub report_in : List Ordered → Event → List Line → List Report
report_in begun report (Line.order ordered ∷ (Line.committed committed ∷ (Line.open_ones open_ones ∷ items))) =
    record { begun = begun; ordered = ordered; committed = committed; open_ones = open_ones; items = items } ∷ []
report_in begun event lines = []

-- the reports of parts that stand behind these requests
abbrev pub reports_after : List Ordered → List TracePart → List Report
reports_after begun [] = []
reports_after begun (part ∷ parts) =
    report_in begun part.event part.lines ++ reports_after (begun ++ begun_by part.event part.lines) parts

-- the reports of a trace, in order
unfoldable pub reports : Trace → List Report
reports trace = reports_after [] trace.parts

-- The transaction is in the list.
abbrev pub is_in : List TxnId → TxnId → Bool
is_in txns txn = commits txns txn

-- the first request that began the transaction
abbrev pub request_of : List Ordered → TxnId → Option Ordered
request_of begun txn = find (λ entry. is_same_txn entry.txn txn) begun

abbrev pub or_nothing : Option Ordered → List Ordered
or_nothing None = []
or_nothing (Some entry) = entry ∷ []

-- the transactions, each with the program of the first request that began it
abbrev pub with_programs : List Ordered → List TxnId → List Ordered
with_programs begun [] = []
with_programs begun (txn ∷ txns) = or_nothing (request_of begun txn) ++ with_programs begun txns

-- the order of the report, with programs
abbrev pub order_of : Report → List Ordered
order_of told = with_programs told.begun told.ordered

-- The transaction stands more than once.
abbrev pub stands_twice : List TxnId → TxnId → Bool
stands_twice txns txn = nat_lt 1 (length (filter (is_same_txn txn) txns))

-- No request before began the transaction, or it stands in the order twice.
abbrev pub is_misplaced : Report → TxnId → Bool
is_misplaced told txn = stands_twice told.ordered txn || is_none (request_of told.begun txn)

-- A transaction that is committed or open isn't in the order, or is both.
abbrev pub is_stray : Report → TxnId → Bool
is_stray told txn = not (is_in told.ordered txn) || (is_in told.committed txn && is_in told.open_ones txn)

abbrev pub or_else : Option TxnId → Option TxnId → Option TxnId
or_else None other = other
or_else (Some txn) other = Some txn

-- the transaction at which a report has no order: the first of the order that is misplaced; else the first of those that are committed, and then of those
-- that are open, that is astray
abbrev pub misplaced : Report → Option TxnId
misplaced told = or_else (find (is_misplaced told) told.ordered) (find (is_stray told) (told.committed ++ told.open_ones))
