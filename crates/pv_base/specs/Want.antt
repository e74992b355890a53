-- What a transaction wants of an item.
use Rattle.std.specs.Prelude.{ℕ, Bool}

-- an item, and whether the transaction may change it
pub record Want : Type 0 where
  pub item : ℕ
  pub exclusive : Bool
