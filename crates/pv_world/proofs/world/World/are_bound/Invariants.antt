-- The participants so far are bound, so all are where those left are.
use Rattle.std.proofs.Common.{◌≡◌, map, drop}
use Rattle.std.specs.List.{list_all}
use Rattle.pv_law_world.specs.Sites.{AreMemoriesInOrder}
use Rattle.pv_protocol.specs.Committed.{is_bound}
use Rattle.pv_protocol.specs.World as model
use Rattle.pv_world.specs.Stands.{Stands, grant_of}
use Rattle.pv_world.proofs.world.World.are_bound.Given as goal

abbrev pub invariant-loop-taken : goal.invariant-loop-taken
invariant-loop-taken l = (is : model.World) → Stands l.self is → AreMemoriesInOrder is
    → list_all (is_bound is l.txn) (map grant_of l.grants) ≡ list_all (is_bound is l.txn) (map grant_of (drop l.taken-index l.grants))
