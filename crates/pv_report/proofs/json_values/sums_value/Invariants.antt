-- The values so far are those of the sums so far.
use Rattle.std.proofs.Common.{◌≡◌, map, take}
use Rattle.serde_json.specs.View.{view}
use Rattle.pv_report.specs.LineData.{sum_data}
use Rattle.pv_report.proofs.json_values.sums_value.Given as goal

abbrev pub invariant-loop-sum : goal.invariant-loop-sum
invariant-loop-sum l = map view l.values.items ≡ map sum_data (take l.sum-index l.sums)
