-- The bytes so far may stand in a name.
use Rattle.std.proofs.Common.{◌≡◌, ℕ, ◌<◌, ◌≤◌, true, get_or}
use Rattle.pv_base.specs.declared.limits.TheConstants.{MAX_NAME}
use Rattle.pv_base.specs.Name.{continues_name}
use Rattle.pv_parse.proofs.lexer.word_size.Given as goal

abbrev pub invariant-loop-i : goal.invariant-loop-i
invariant-loop-i l = (l.i ≤ MAX_NAME) × ((k : ℕ) → k < l.i → continues_name (get_or l.text k 0) ≡ true)
