-- The rings of the clients so far were looked at.
use Rattle.std.proofs.Common.{◌≡◌, true}
use Rattle.pv_cluster.proofs.looking.look_at_clients.Given as goal
use Rattle.pv_cluster.specs.Looks.{AllLooked, AllStill, StandOnceTo, WereTakenTo}

abbrev pub invariant-loop-at : goal.invariant-loop-at
invariant-loop-at g l = record {
  still : AllStill l.fn.boxes.items l.boxes.items;
  looked : AllLooked l.fn.clients.items l.clients.items;
  once : StandOnceTo l.at l.fn.boxes.items l.script.clients.items;
  taken : l.all ≡ true → WereTakenTo l.at l.fn.boxes.items l.script.clients.items l.fn.clients.items;
}
