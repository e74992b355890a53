-- The committed transactions so far, and those left, are all that are committed.
use Rattle.std.proofs.Common.{◌≡◌, [], ◌++◌, map, filter, drop}
use Rattle.pv_protocol.specs.Committed.{is_committed}
use Rattle.pv_protocol.specs.Outcomes.{HasOneOutcome}
use Rattle.pv_protocol.specs.World as model
use Rattle.pv_world.specs.Stands.{Stands}
use Rattle.pv_world.specs.declared.order.Placed.{Placed}
use Rattle.pv_world.proofs.world.World.committed.Given as goal

abbrev pub invariant-loop-placed : goal.invariant-loop-placed
invariant-loop-placed l = (is : model.World) → Stands l.self is → HasOneOutcome is []
    → map (λ (placed : Placed). placed.txn) (filter (λ (placed : Placed). is_committed is placed.txn) l.placed-items)
    ≡ l.txns.items ++ map (λ (placed : Placed). placed.txn) (filter (λ (placed : Placed). is_committed is placed.txn) (drop l.placed-index l.placed-items))
