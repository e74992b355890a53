-- One more item has its line.
use Rattle.std.proofs.Common.{arith}
use Rattle.pv_script.specs.LineView.{line_of}
use Rattle.pv_site.specs.SiteState.{setup_of}
use Rattle.pv_world.proofs.ReadingLemmas.{declared-at, next-line}
use Rattle.pv_world.proofs.ReportLemmas.{line-next}
use Rattle.pv_world.proofs.world.World.push_items.Goals as goal

pub loop-item-preserved : goal.loop-item-preserved
loop-item-preserved c = λ is stands.
    let catalog = c.args.self.now.catalog in
    let at = declared-at catalog.items c.loop-item.item (omega (arith, c.loop-item-test.true, c.len-item-end.ensures.count)) in
    line-next line_of _ _ _ _ _ _ _ c.in_ok-push.ensures.items (c.in_ok-item_line.ensures is at.item stands at.found)
    (c.loop-item.invariant is stands) (next-line (setup_of catalog) is catalog.items c.loop-item.item at)
