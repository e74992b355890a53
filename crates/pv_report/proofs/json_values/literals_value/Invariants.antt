-- The values so far are those of the literals so far.
use Rattle.std.proofs.Common.{◌≡◌, map, take}
use Rattle.serde_json.specs.View.{view}
use Rattle.pv_report.specs.LineData.{literal_data}
use Rattle.pv_report.proofs.json_values.literals_value.Given as goal

abbrev pub invariant-loop-literal : goal.invariant-loop-literal
invariant-loop-literal l = map view l.values.items ≡ map literal_data (take l.literal-index l.literals)
