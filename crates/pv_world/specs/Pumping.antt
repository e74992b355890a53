-- How many messages a pump may still deliver: all of them, or a count.
use Rattle.std.specs.Prelude.{ℕ, ◌-◌, Bool, false, ◌==◌, Option, Some, None}

-- Not one more.
abbrev pub is_over : Option ℕ → Bool
is_over None = false
is_over (Some most) = most == 0

-- one less
abbrev pub one_less : Option ℕ → Option ℕ
one_less None = None
one_less (Some most) = Some (most - 1)
