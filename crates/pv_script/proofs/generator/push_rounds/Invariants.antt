-- The text so far is that of the rounds so far.
use Rattle.std.proofs.Common.{◌≡◌, ◌++◌, string_bytes}
use Rattle.pv_script.specs.Generated.{after_rounds, rounds_text}
use Rattle.pv_script.proofs.generator.push_rounds.Given as goal

abbrev pub invariant-loop-round : goal.invariant-loop-round
invariant-loop-round l = record {
  text : string_bytes l.text ≡ string_bytes l.initial.text ++ rounds_text l._round l.initial.draws.state;
  state : l.draws.state ≡ after_rounds l._round l.initial.draws.state;
}
