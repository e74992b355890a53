-- One more item is looked at.
use Rattle.std.proofs.Common.{◌++◌, arith}
use Rattle.pv_show.specs.SiteText.{item_text, items_text}
use Rattle.pv_show.proofs.ItemLemmas.{declared-at, one-more-item}
use Rattle.pv_show.proofs.items.push_items.Goals as goal

pub loop-number-preserved : goal.loop-number-preserved
loop-number-preserved c =
    let catalog = c.args.catalog.now in
    let records = c.args.store.now.records in
    let text = c.args.text.now.items ++ items_text catalog c.args.site.0 records in
    let at = declared-at catalog.items c.loop-number.number (omega (arith, c.loop-number-test.true, c.len-number-end.ensures.count)) in
    one-more-item (item_text catalog records) c.args.site.0 catalog.items c.loop-number.number text c.loop-number.text.items c.push_if_here.new.text.items at.0 at.1
    c.loop-number.invariant (c.in_ok-push_if_here.ensures at.0 at.1)
