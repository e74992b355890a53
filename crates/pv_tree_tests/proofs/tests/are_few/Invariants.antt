-- The literals so far, and those of the cases left.
use Rattle.std.proofs.Common.{◌≡◌, ◌+◌, ◌*◌, ◌≤◌, drop, length, map}
use Rattle.std.specs.List.{sum}
use Rattle.pv_base.specs.Polyvalue.{Case}
use Rattle.pv_tree_tests.proofs.tests.are_few.Given as goal

abbrev pub invariant-loop-case : goal.invariant-loop-case
invariant-loop-case l =
    (l.literals + sum (map (λ (case : Case _). length case.when) (drop l.case-index l.cases)) ≡ sum (map (λ (case : Case _). length case.when) l.cases))
    × (l.literals ≤ 256 * l.case-index)
