-- The values so far are those of the transactions so far.
use Rattle.std.proofs.Common.{◌≡◌, map, take}
use Rattle.serde_json.specs.View.{view}
use Rattle.pv_report.specs.LineData.{txn_data}
use Rattle.pv_report.proofs.json_values.txns_value.Given as goal

abbrev pub invariant-loop-txn : goal.invariant-loop-txn
invariant-loop-txn l = map view l.values.items ≡ map txn_data (take l.txn-index l.txns)
