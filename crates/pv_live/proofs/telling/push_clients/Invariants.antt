-- The lines so far, and those of the clients left, are all.
use Rattle.std.proofs.Common.{◌≡◌, ◌++◌}
use Rattle.pv_live.proofs.TellLemmas.{clients_left}
use Rattle.pv_live.proofs.telling.push_clients.Given as goal

abbrev pub invariant-loop-client : goal.invariant-loop-client
invariant-loop-client l = record {
  whole : l.initial.text.items ++ clients_left l.catalog l.clients l.told 0 ≡ l.text.items ++ clients_left l.catalog l.clients l.told l.number;
  count : l.number ≡ l.client-index;
}
