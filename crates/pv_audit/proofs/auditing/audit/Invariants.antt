-- The reports so far are counted and fine, and the requests before are kept.
use Rattle.std.proofs.Common.{◌≡◌, ◌≤◌, [], length, map, take}
use Rattle.std.specs.Prelude.{All}
use Rattle.pv_audit.specs.Findings.{IsFine}
use Rattle.pv_audit.specs.Kept.{KeepsFirst, KeepsPlans}
use Rattle.pv_audit.specs.Reports.{reports_after}
use Rattle.pv_audit.specs.Views.{part_of}
use Rattle.pv_audit.proofs.ReportCounts.{begun_after}
use Rattle.pv_audit.proofs.auditing.audit.Given as goal

abbrev pub invariant-loop-part : goal.invariant-loop-part
invariant-loop-part l = record {
  first : KeepsFirst l.begun (begun_after [] (map part_of (take l.part-index l.trace.parts.items)));
  plans : KeepsPlans (length l.trace.catalog.items) l.begun;
  few : l.reports ≤ l.part-index;
  counted : l.reports ≡ length (reports_after [] (map part_of (take l.part-index l.trace.parts.items)));
  fine : All (IsFine l.trace.catalog) (reports_after [] (map part_of (take l.part-index l.trace.parts.items)));
}
