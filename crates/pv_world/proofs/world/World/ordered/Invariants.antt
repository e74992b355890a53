-- The transactions so far, and those left, are all.
use Rattle.std.proofs.Common.{◌≡◌, ◌++◌, map, drop}
use Rattle.pv_world.specs.declared.order.Placed.{Placed}
use Rattle.pv_world.proofs.world.World.ordered.Given as goal

abbrev pub invariant-loop-placed : goal.invariant-loop-placed
invariant-loop-placed l =
    map (λ (placed : Placed). placed.txn) l.placed-items ≡ l.txns.items ++ map (λ (placed : Placed). placed.txn) (drop l.placed-index l.placed-items)
