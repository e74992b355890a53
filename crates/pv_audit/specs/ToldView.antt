-- What is kept of a report, as the plain data of the definitions.
use Rattle.std.specs.Prelude.{◌≡◌, List, None, map}
use Rattle.pv_audit.specs.Kept.{KeepsFirst}
use Rattle.pv_audit.specs.Reports.{Report, misplaced}
use Rattle.pv_audit.specs.Sorted.{AreSorted}
use Rattle.pv_audit.specs.declared.begun.Begun.{Begun}
use Rattle.pv_audit.specs.declared.outcomes.Outcomes.{Outcomes}
use Rattle.pv_audit.specs.declared.report.Head.{Head}
use Rattle.pv_model.specs.Serial.{Ordered}
use Rattle.pv_script.specs.LineView.{line_of}

-- the report, behind these requests
abbrev pub report_of : List Ordered → Head → Report
report_of requests head = record {
  begun = requests;
  ordered = head.ordered.now;
  committed = head.committed.now;
  open_ones = head.open_ones.now;
  items = map line_of head.items.now;
}

-- The lists are those of the report, sorted.
pub record AreOutcomesIn (outcomes : Outcomes) (told : Report) : Type 0 where
  pub ordered : AreSorted outcomes.ordered.txns.items told.ordered
  pub committed : AreSorted outcomes.committed.txns.items told.committed
  pub open_ones : AreSorted outcomes.open_ones.txns.items told.open_ones

-- What is kept is what the serial run of the report is computed from, and each transaction of the report has its place.
pub record CanRun (begun : Begun) (outcomes : Outcomes) (told : Report) : Type 0 where
  pub requests : KeepsFirst begun told.begun
  pub sorted : AreOutcomesIn outcomes told
  pub placed : misplaced told ≡ None
