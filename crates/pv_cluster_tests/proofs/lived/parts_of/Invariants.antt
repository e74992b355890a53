-- The histories of the boxes so far.
use Rattle.std.proofs.Common.{◌≡◌, ◌++◌, map}
use Rattle.pv_cluster_tests.proofs.lived.parts_of.Given as goal

abbrev pub invariant-loop-one : goal.invariant-loop-one
invariant-loop-one g l = (l.yielded ++ l.one-iterator.rest.items ≡ l.fn.boxes.items) × (l.histories.items ≡ map (λ one. one.history) l.yielded)
