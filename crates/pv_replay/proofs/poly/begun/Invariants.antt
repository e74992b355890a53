-- What is found of the literals so far, and of those that are left.
use Rattle.std.proofs.Common.{◌≡◌, length}
use Rattle.pv_replay.specs.Nodes.{begun}
use Rattle.pv_replay.proofs.BegunLemmas.{found}
use Rattle.pv_replay.proofs.poly.begun.Given as goal

abbrev pub invariant-loop-rest : goal.invariant-loop-rest
invariant-loop-rest l = begun l.literals ≡ found l.behind l.rest

abbrev pub decreases-loop-rest : goal.decreases-loop-rest
decreases-loop-rest l = length l.rest
