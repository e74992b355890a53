-- One more item has its line.
use Rattle.std.proofs.Common.{◌++◌, [], append-nil, refl, sym, arith}
use Rattle.std.specs.Prelude.{flat_map}
use Rattle.pv_report.specs.StillHeld.{StillHeld}
use Rattle.pv_transcript.specs.Begins.{Begins}
use Rattle.pv_transcript.specs.ScheduleText.{item_line}
use Rattle.pv_transcript.proofs.HeldLemmas.{held_further, on_err}
use Rattle.pv_transcript.proofs.ItemLemmas.{begun_at_item, declared-at, one-more-item}
use Rattle.pv_transcript.proofs.catalog.push_items.Goals as goal

pub loop-number-init : goal.loop-number-init
loop-number-init c = record { whole = refl; held = record { more = []; is = sym (append-nil c.args.text.now.items) } }

pub loop-number-preserved : goal.loop-number-preserved
loop-number-preserved c =
    let items = c.args.catalog.now.items in
    let at = declared-at items c.loop-number.number (omega (arith, c.loop-number-test.true, c.len-number-end.ensures.count)) in
    let more = c.in_ok-push_item.ensures.text at.0 at.1 in
    record {
      whole = one-more-item item_line items c.loop-number.number (c.args.text.now.items ++ flat_map item_line items) c.loop-number.text.items c.push_item.new.text.items at.0 at.1
          c.loop-number.invariant.whole more;
      held = held_further c.args.text.now.items c.loop-number.text.items c.push_item.new.text.items c.loop-number.invariant.held (record { more = item_line at.0; is = more });
    }

pub returns-in_err-push_item-clause-held : goal.returns-in_err-push_item-clause-held
returns-in_err-push_item-clause-held c =
    on_err c.from_residual.result (StillHeld c.args.text.now.items c.push_item.new.text.items)
    (held_further c.args.text.now.items c.loop-number.text.items c.push_item.new.text.items c.loop-number.invariant.held c.in_err-push_item.ensures.held)

pub returns-in_err-push_item-clause-begun : goal.returns-in_err-push_item-clause-begun
returns-in_err-push_item-clause-begun c =
    let items = c.args.catalog.now.items in
    let at = declared-at items c.loop-number.number (omega (arith, c.loop-number-test.true, c.len-number-end.ensures.count)) in
    let all = c.args.text.now.items ++ flat_map item_line items in
    on_err c.from_residual.result (Begins c.push_item.new.text.items all)
    (begun_at_item item_line items c.loop-number.number all c.loop-number.text.items c.push_item.new.text.items at.0 at.1
    c.loop-number.invariant.whole (c.in_err-push_item.ensures.begun at.0 at.1))
