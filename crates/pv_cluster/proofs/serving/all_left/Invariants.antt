-- What is left of the clients so far.
use Rattle.std.proofs.Common.{◌≡◌, ◌++◌}
use Rattle.pv_rings.specs.Rings.{Each}
use Rattle.pv_cluster.proofs.serving.all_left.Given as goal
use Rattle.pv_cluster.specs.Serving.{IsLeftOf}

abbrev pub invariant-loop-client : goal.invariant-loop-client
invariant-loop-client l =
    (l.yielded ++ l.client-iterator.rest.items ≡ l.fn.clients.items) × Each (λ k client ended. IsLeftOf client ended) l.yielded l.left.items
