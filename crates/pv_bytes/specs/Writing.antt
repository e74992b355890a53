-- Writing after bytes.
use Rattle.std.specs.Prelude.{ℕ, List}

-- The bytes that are written, and for how many more there is room.
pub record Written : Type 0 where
  pub bytes : List ℕ
  pub room : ℕ
