-- One more is put behind those before.
use Rattle.pv_script.proofs.EachBelowLemmas.{none_below, one_more}
use Rattle.pv_script.proofs.generator.push_items.Goals as goal

pub loop-item-init : goal.loop-item-init
loop-item-init c = none_below _ _

pub loop-item-preserved : goal.loop-item-preserved
loop-item-preserved c = one_more _ _ _ _ _ c.loop-item.invariant c.in_ok-push_item_line.ensures
