-- The boxes go on, and stand together with the clients.
use Rattle.pv_cluster.proofs.ending.close_all.Given as goal
use Rattle.pv_closing.specs.Standing.{StandTogether}
use Rattle.pv_cluster.specs.Serving.{AllBecame}

abbrev pub invariant-loop : goal.invariant-loop
invariant-loop g l = record {
  on : AllBecame g.L.Log.model l.fn.boxes.items l.boxes.items;
  standing : StandTogether g.L.Log.model l.script l.boxes.items l.clients.items;
}
