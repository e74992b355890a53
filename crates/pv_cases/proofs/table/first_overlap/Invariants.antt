-- What holds on the way through `first_overlap`.
use Rattle.std.proofs.Common.{MatchOption, take}
use Rattle.pv_cases.specs.Joining.{HasNoPair, IsLeastPair}
use Rattle.pv_cases.proofs.table.first_overlap.Given as goal

abbrev pub invariant-loop-meeting : goal.invariant-loop-meeting
invariant-loop-meeting l =
    MatchOption l.least (HasNoPair (take l.meeting-index l.meetings)) (λ pair. IsLeastPair (take l.meeting-index l.meetings) pair.0 pair.1)
