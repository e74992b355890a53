-- How much of a text a buffer has that found no memory for all of it.
use Rattle.std.specs.Prelude.{◌≡◌, ℕ, List, ◌++◌}

-- The text is a beginning of the whole.
pub record Begins (text whole : List ℕ) : Type 0 where
  pub left : List ℕ
  pub is : whole ≡ text ++ left
