-- How long a log is.
use Rattle.std.specs.Prelude.{ℕ, ◌+◌, List, length, sum_by}

-- What a log holds: the contents of its records, the oldest first.
abbrev pub Contents : Type 0
Contents = List (List ℕ)

-- The length of a log with these contents: 9 bytes, and for each record 5 and its content.
abbrev pub size_of : Contents → ℕ
size_of contents = 9 + sum_by (λ content. 5 + length content) contents
