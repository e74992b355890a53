-- The values so far are those of the replies so far.
use Rattle.std.proofs.Common.{◌≡◌, map, take}
use Rattle.serde_json.specs.View.{view}
use Rattle.pv_report.specs.LineData.{reply_data}
use Rattle.pv_report.proofs.json_values.replies_value.Given as goal

abbrev pub invariant-loop-reply : goal.invariant-loop-reply
invariant-loop-reply l = map view l.values.items ≡ map reply_data (take l.reply-index l.replies)
