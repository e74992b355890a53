-- What a reader leaves, whether or not what it was to read stood there.
use Rattle.std.specs.Prelude.{ℕ, List}
use Rattle.pv_bytes.specs.Reading.{Rest, HasTaken}

-- Some bytes were taken from the front, maybe none: what is left is the end of what was left.
abbrev pub HasGoneOn : Rest → Rest → Type 0
HasGoneOn old new = (front : List ℕ) × HasTaken front old new
