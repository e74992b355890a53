-- So many sites stand, and there is room for the others.
use Rattle.std.proofs.Common.{◌≡◌, ◌≤◌, replicate, vec_len, vec_capacity}
use Rattle.pv_protocol.specs.World.{first_site}
use Rattle.pv_world.specs.Stands.{StandForSites}
use Rattle.pv_world.proofs.world.World.new.Given as goal

abbrev pub invariant-loop-site : goal.invariant-loop-site
invariant-loop-site l = record {
  count : vec_len l.cells ≡ l.site;
  room : l.site-end ≤ vec_capacity l.cells;
  stand : StandForSites l.catalog 0 l.cells.items (replicate l.site first_site);
}
