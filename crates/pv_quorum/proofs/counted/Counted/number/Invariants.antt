-- So many are counted of those looked at.
use Rattle.std.proofs.Common.{◌≡◌, ◌≤◌}
use Rattle.pv_law_quorum.specs.Ballot.{number_of}
use Rattle.pv_quorum.specs.Knows.{marked}
use Rattle.pv_quorum.proofs.counted.Counted.number.Given as goal

abbrev pub invariant-loop-decider : goal.invariant-loop-decider
invariant-loop-decider l = record {
  number : l.number ≡ number_of (marked l.self.deciders) l.decider;
  small : l.number ≤ l.decider;
}
