-- What a buffer that is written to still holds.
use Rattle.std.specs.Prelude.{◌≡◌, ℕ, List, ◌++◌}

-- The buffer begins with what it held.
pub record StillHeld (held text : List ℕ) : Type 0 where
  pub more : List ℕ
  pub is : text ≡ held ++ more
