-- So many lines were put, and the others are left.
use Rattle.std.proofs.Common.{◌≡◌, ◌≤◌, ◌-◌, ◌++◌, drop, take}
use Rattle.pv_model.specs.Schedule.{significant}
use Rattle.pv_run.specs.Traced.{said_texts}
use Rattle.pv_run.proofs.said.push_front.Given as goal

abbrev pub invariant-loop-pushed : goal.invariant-loop-pushed
invariant-loop-pushed l =
    (l.text.items ≡ l.initial.text.items ++ said_texts (take l.pushed (significant l.said))) × (significant l.rest ≡ drop l.pushed (significant l.said)) × (l.pushed ≤ l.front)

abbrev pub decreases-loop-pushed : goal.decreases-loop-pushed
decreases-loop-pushed l = l.front - l.pushed
