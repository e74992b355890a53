-- When the left side of an operator decides it.
use Rattle.std.specs.Prelude.{◌≡◌, ℤ, Ok, Option, Some, None, Result}
use Rattle.pv_base.specs.declared.reply.Decline.{Decline}
use Rattle.pv_model.specs.Meaning.{with_left, with_value, computed}
use Rattle.pv_model.specs.Syntax.{Op}

-- With no value, the operator is computed on both sides. With one, that is its value whatever stands on the right.
abbrev pub IsShortCircuit : Op → ℤ → Option ℤ → Type 0
IsShortCircuit op x (Some v) = (right : Result ℤ Decline) → with_left op x right ≡ Ok v
IsShortCircuit op x None = (right : Result ℤ Decline) → with_left op x right ≡ with_value right (computed op x)
