-- One more is put behind those before.
use Rattle.pv_script.proofs.EachBelowLemmas.{none_below, one_more}
use Rattle.pv_script.proofs.generator.push_tick_rounds.Goals as goal

pub loop-round-init : goal.loop-round-init
loop-round-init c = none_below _ _

pub loop-round-preserved : goal.loop-round-preserved
loop-round-preserved c = one_more _ _ _ _ _ c.loop-round.invariant c.in_ok-push_tick_round.ensures
