-- Which posts of a ring a plan of faults means.
use Rattle.std.specs.Prelude.{ℕ, ◌%◌, ◌==◌, Bool, not, ◌&&◌, if◌then◌else◌}

-- Whether a post is one of each `each`-th: its number is a multiple of `each`. Of 0 there is none.
abbrev pub is_due : ℕ → ℕ → Bool
is_due each number = not (each == 0) && (number % each == 0)

-- Of so many posts, how many came after the last due one; 0 where none is ever due.
abbrev pub since_due : ℕ → ℕ → ℕ
since_due each count = if each == 0 then 0 else count % each
