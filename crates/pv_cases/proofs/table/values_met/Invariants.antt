-- What holds on the way through `values_met`.
use Rattle.std.proofs.Common.{◌≡◌, take}
use Rattle.std.specs.List.{filter_map}
use Rattle.pv_cases.specs.Joining.{value_met}
use Rattle.pv_cases.proofs.table.values_met.Given as goal

abbrev pub invariant-loop-meeting : goal.invariant-loop-meeting
invariant-loop-meeting g l = l.values.items ≡ filter_map (value_met l.cases) (take l.meeting-index l.meetings)
