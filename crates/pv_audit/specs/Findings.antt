-- What an audit of a trace finds: the first report with a fault, and the first fault of it.
use Rattle.std.specs.Prelude.{◌≡◌, ℕ, ℤ, ◌+◌, Some, None, List, [], ◌∷◌, ◌++◌, length, All}
use Rattle.pv_audit.specs.Agreement.{LineAgrees, AreOpen, ReportAgrees}
use Rattle.pv_audit.specs.FirstFailures.{IsFirstFailure}
use Rattle.pv_audit.specs.Limits.{PassesLimit}
use Rattle.pv_audit.specs.Reports.{Report, misplaced, reports}
use Rattle.pv_audit.specs.Traces.{Trace}
use Rattle.pv_base.specs.Assignment.{assignments}
use Rattle.pv_base.specs.Catalog.{Declared}
use Rattle.pv_base.specs.Named.{with_txns}
use Rattle.pv_base.specs.Polyvalue.{Case}
use Rattle.pv_base.specs.declared.txn.TxnId.{TxnId}
use Rattle.pv_protocol.specs.Lines.{Line}

-- what is wrong with one report
pub data Finding : Type 0 where
  -- this transaction has no place in the order
  no_order : TxnId → Finding
  -- this item has another value where of the open transactions exactly these commit
  no_item : (item : ℕ) (txns : List TxnId) → Finding
  -- values that depend on so many outcomes aren't computed
  limit : (names : ℕ) → Finding

-- every list of open transactions, ascending, with "doesn't commit" before "commits" and the least transaction the most significant
abbrev pub open_lists : Report → List (List TxnId)
open_lists told = assignments (with_txns told.open_ones [])

-- The printed item disagrees where exactly these open transactions commit, and at no list before it; and no item before it disagrees at all.
pub record IsFirstDisagreement (catalog : Declared) (told : Report) (item : ℕ) (txns : List TxnId) : Type 0 where
  pub front : List Line
  pub cases : List (Case ℤ)
  pub behind : List Line
  pub split : told.items ≡ front ++ Line.item item cases ∷ behind
  pub fine : (other : List TxnId) → AreOpen told other → All (LineAgrees catalog told other) front
  pub first : IsFirstFailure (λ other. LineAgrees catalog told other (Line.item item cases)) (open_lists told) txns

-- Each transaction has its place, and the serial run stays within the limits.
pub record CanBeRun (catalog : Declared) (told : Report) : Type 0 where
  pub placed : misplaced told ≡ None
  pub narrow : (count : ℕ) → PassesLimit catalog told count → ⊥

-- This is wrong with the report, and nothing that is tested before it.
abbrev pub IsFinding : Declared → Report → Finding → Type 0
IsFinding catalog told (no_order txn) = misplaced told ≡ Some txn
IsFinding catalog told (limit names) = (misplaced told ≡ None) × PassesLimit catalog told names
IsFinding catalog told (no_item item txns) = CanBeRun catalog told × IsFirstDisagreement catalog told item txns

-- Nothing is wrong with the report: it can be run, and agrees.
pub record IsFine (catalog : Declared) (told : Report) : Type 0 where
  pub can : CanBeRun catalog told
  pub agrees : ReportAgrees catalog told

-- what an audit answers
pub data Verdict : Type 0 where
  -- all reports are fine, and there are so many
  all_agree : (reports : ℕ) → Verdict
  -- the report of this number is the first one with a fault; they are numbered from 1
  at_report : (number : ℕ) → Finding → Verdict

-- The report of this number is the first one that isn't fine, and this is found there.
pub record IsFirstFinding (trace : Trace) (number : ℕ) (found : Finding) : Type 0 where
  pub front : List Report
  pub told : Report
  pub behind : List Report
  pub split : reports trace ≡ front ++ told ∷ behind
  pub counted : number ≡ length front + 1
  pub fine : All (IsFine trace.catalog) front
  pub is : IsFinding trace.catalog told found

-- An audit answers `all_agree` with the number of reports exactly where each of them is fine, and else the first finding.
abbrev pub IsVerdict : Trace → Verdict → Type 0
IsVerdict trace (all_agree count) = (count ≡ length (reports trace)) × All (IsFine trace.catalog) (reports trace)
IsVerdict trace (at_report number found) = IsFirstFinding trace number found
