-- The text so far is that of the rounds so far.
use Rattle.std.proofs.Common.{◌≡◌, ◌++◌, string_bytes}
use Rattle.pv_script.specs.Generated.{each_below, tick_round_text}
use Rattle.pv_script.proofs.generator.push_tick_rounds.Given as goal

abbrev pub invariant-loop-round : goal.invariant-loop-round
invariant-loop-round l = string_bytes l.text ≡ string_bytes l.initial.text ++ each_below (λ _. tick_round_text) l._round
