-- The values so far are those of the cases so far.
use Rattle.std.proofs.Common.{◌≡◌, map, take}
use Rattle.serde_json.specs.View.{view}
use Rattle.pv_report.specs.LineData.{case_data}
use Rattle.pv_report.proofs.json_values.cases_value.Given as goal

abbrev pub invariant-loop-case : goal.invariant-loop-case
invariant-loop-case l = map view l.values.items ≡ map case_data (take l.case-index l.cases)
