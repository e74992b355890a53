-- The values so far are of the items so far, and the total is that of these and of the items left.
use Rattle.std.proofs.Common.{◌≡◌, [], length, drop}
use Rattle.pv_base.specs.declared.limits.TheConstants.{HELD_NAMES}
use Rattle.pv_protocol.specs.Report.{total_from, readings, readings_from}
use Rattle.pv_protocol.specs.World as model
use Rattle.pv_site.specs.SiteState.{setup_of}
use Rattle.pv_world.specs.Stands.{Stands}
use Rattle.pv_world.proofs.world.World.total.Given as goal

abbrev pub invariant-loop-item : goal.invariant-loop-item
invariant-loop-item l = record {
  count : length l.values.items ≡ l.item;
  total : (is : model.World) → Stands l.self is
      → total_from HELD_NAMES [] 0 (readings (setup_of l.self.catalog) is)
      ≡ total_from HELD_NAMES l.values.items l.item (readings_from (setup_of l.self.catalog) is l.item (drop l.item l.self.catalog.items));
}
