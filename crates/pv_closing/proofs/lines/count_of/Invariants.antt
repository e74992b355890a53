-- So many of the clients so far are of the site.
use Rattle.std.proofs.Common.{◌≡◌, ◌≤◌, ◌+◌, drop}
use Rattle.pv_closing.proofs.lines.count_of.Given as goal
use Rattle.pv_opening.specs.Counts.{count_at}

abbrev pub invariant-loop-client : goal.invariant-loop-client
invariant-loop-client l = record {
  count : l.count + count_at l.site.0 (drop l.client-index l.clients) ≡ count_at l.site.0 l.clients;
  few : l.count ≤ l.client-index;
}
