-- The open transactions so far, and those left, are all that are open.
use Rattle.std.proofs.Common.{◌≡◌, [], ◌++◌, map, filter, drop}
use Rattle.pv_law_world.specs.Sites.{AreMemoriesInOrder}
use Rattle.pv_protocol.specs.Outcomes.{HasOneOutcome}
use Rattle.pv_protocol.specs.World as model
use Rattle.pv_world.specs.OpenWith.{is_open_with}
use Rattle.pv_world.specs.Stands.{Stands, placed_of}
use Rattle.pv_world.specs.declared.order.Placed.{Placed}
use Rattle.pv_world.proofs.world.World.open_ones.Given as goal

abbrev pub invariant-loop-placed : goal.invariant-loop-placed
invariant-loop-placed l = (is : model.World) → Stands l.self is → HasOneOutcome is [] → AreMemoriesInOrder is
    → map (λ (placed : Placed). placed.txn) (filter (λ (placed : Placed). is_open_with is (placed_of placed)) l.placed-items)
    ≡ l.txns.items ++ map (λ (placed : Placed). placed.txn) (filter (λ (placed : Placed). is_open_with is (placed_of placed)) (drop l.placed-index l.placed-items))
