-- The text so far is that of the sites so far.
use Rattle.std.proofs.Common.{◌≡◌, ◌++◌, string_bytes}
use Rattle.pv_script.specs.Generated.{each_below, mend_lines}
use Rattle.pv_script.proofs.generator.push_mends.Given as goal

abbrev pub invariant-loop-site : goal.invariant-loop-site
invariant-loop-site l = string_bytes l.text ≡ string_bytes l.initial.text ++ each_below mend_lines l.site
