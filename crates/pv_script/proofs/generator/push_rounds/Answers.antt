-- One more is put behind those before.
use Rattle.std.proofs.Common.{◌++◌, ap, ◌∙◌}
use Rattle.std.specs.Prelude.{string_bytes}
use Rattle.pv_script.specs.Generated.{after_rounds, round_text}
use Rattle.pv_script.proofs.EachBelowLemmas.{no_round, none_below, one_more, one_round_more}
use Rattle.pv_script.proofs.generator.push_rounds.Goals as goal

pub loop-round-init : goal.loop-round-init
loop-round-init c = record { text = none_below _ _; state = no_round _ }

pub loop-round-preserved : goal.loop-round-preserved
loop-round-preserved c = record {
  text = one_more (λ n. round_text (after_rounds n c.args.draws.now.state)) c.loop-round._round _ _ _ c.loop-round.invariant.text
      (c.in_ok-push_round.ensures.text ∙ ap (λ state. string_bytes c.loop-round.text ++ round_text state) c.loop-round.invariant.state);
  state = one_round_more _ _ _ _ c.loop-round.invariant.state c.in_ok-push_round.ensures.state;
}
