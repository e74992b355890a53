-- One more is put behind those before.
use Rattle.pv_script.proofs.EachBelowLemmas.{none_below, one_more}
use Rattle.pv_script.proofs.generator.push_mends.Goals as goal

pub loop-site-init : goal.loop-site-init
loop-site-init c = none_below _ _

pub loop-site-preserved : goal.loop-site-preserved
loop-site-preserved c = one_more _ _ _ _ _ c.loop-site.invariant c.in_ok-push_mend_lines.ensures
