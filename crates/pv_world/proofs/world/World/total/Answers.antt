-- One more item is read, or tells why there is no sum.
use Rattle.std.proofs.Common.{[], ◌∷◌, ◌+◌, length, length-append, drop, ap, sym, ◌∙◌, arith}
use Rattle.pv_base.specs.declared.limits.TheConstants.{HELD_NAMES}
use Rattle.pv_protocol.specs.Lines as lines
use Rattle.pv_protocol.specs.Report.{cases, down, locked, readings_from, total_from}
use Rattle.pv_site.specs.SiteState.{setup_of}
use Rattle.pv_world.proofs.SiteLemmas.{same-site}
use Rattle.pv_world.proofs.ReadingLemmas.{declared-at, next-read}
use Rattle.pv_world.proofs.world.World.total.Goals as goal

pub returns-in-Locked : goal.returns-in-Locked
returns-in-Locked c = λ is stands.
    let catalog = c.args.self.now.catalog in
    let at = declared-at catalog.items c.loop-item.item (omega (arith, c.loop-item-test.true, c.len-item-end.ensures.count)) in
    sym (c.loop-item.invariant.total is stands
    ∙ next-read (setup_of catalog) is catalog.items c.loop-item.item at HELD_NAMES c.loop-item.values.items (locked c.in-Locked.field-0)
    (sym (c.in-Locked.ensures is at.item stands at.found)))

pub returns-in-Down : goal.returns-in-Down
returns-in-Down c = λ is stands.
    let catalog = c.args.self.now.catalog in
    let at = declared-at catalog.items c.loop-item.item (omega (arith, c.loop-item-test.true, c.len-item-end.ensures.count)) in
    ap lines.Line.total_down (same-site catalog.items c.loop-item.item c.site_of.result.0 at.item c.site_of.ensures at.found)
    ∙ sym (c.loop-item.invariant.total is stands
    ∙ next-read (setup_of catalog) is catalog.items c.loop-item.item at HELD_NAMES c.loop-item.values.items (down at.item.site)
    (sym (c.in-Down.ensures is at.item stands at.found)))

pub loop-item-preserved : goal.loop-item-preserved
loop-item-preserved c = record {
  count =
      let longer = ap length c.in_ok-push-in-Cases.ensures.items ∙ length-append c.loop-item.values.items (c.in_ok-copy-in-Cases.field-0 ∷ []) in
      let before = c.loop-item.invariant.count in
      omega (arith, longer, before);
  total = λ is stands.
      let catalog = c.args.self.now.catalog in
      let at = declared-at catalog.items c.loop-item.item (omega (arith, c.loop-item-test.true, c.len-item-end.ensures.count)) in
      let read = ap cases c.in_ok-copy-in-Cases.ensures.equal ∙ c.in-Cases.ensures is at.item stands at.found in
      c.loop-item.invariant.total is stands
      ∙ next-read (setup_of catalog) is catalog.items c.loop-item.item at HELD_NAMES c.loop-item.values.items (cases c.in_ok-copy-in-Cases.field-0) (sym read)
      ∙ ap (λ values. total_from HELD_NAMES values (c.loop-item.item + 1) (readings_from (setup_of catalog) is (c.loop-item.item + 1) (drop (c.loop-item.item + 1) catalog.items)))
      (sym c.in_ok-push-in-Cases.ensures.items);
}
