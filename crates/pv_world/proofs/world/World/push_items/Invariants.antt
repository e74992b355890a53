-- The lines so far, and those of the items left, are all.
use Rattle.std.proofs.Common.{◌≡◌, ◌++◌, map, drop}
use Rattle.pv_protocol.specs.Report.{item_lines, readings, readings_from}
use Rattle.pv_protocol.specs.World as model
use Rattle.pv_script.specs.LineView.{line_of}
use Rattle.pv_site.specs.SiteState.{setup_of}
use Rattle.pv_world.specs.Stands.{Stands}
use Rattle.pv_world.proofs.world.World.push_items.Given as goal

abbrev pub invariant-loop-item : goal.invariant-loop-item
invariant-loop-item l = (is : model.World) → Stands l.self is
    → map line_of l.fn.lines.items ++ item_lines 0 (readings (setup_of l.self.catalog) is)
    ≡ map line_of l.lines.items ++ item_lines l.item (readings_from (setup_of l.self.catalog) is l.item (drop l.item l.self.catalog.items))
