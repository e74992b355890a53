-- The line names the item that is asked for.
use Rattle.std.proofs.Common.{sym, subst}
use Rattle.pv_handle.proofs.ReadLemmas.{item-named}
use Rattle.pv_handle.proofs.outputs.shown_text.Goals as goal
use Rattle.pv_report.specs.NamesOnlyItems.{NamesOnlyItems}
use Rattle.pv_world.specs.Readings.{reading_in}

pub print-requires : goal.print-requires
print-requires c = record {
  items =
      subst (NamesOnlyItems c.args.catalog.now) (sym (c.in_ok-line.ensures 0))
      (item-named c.args.catalog.now c.args.item.0 (reading_in 0 c.args.shown) c.requires);
}
