-- What is published at once.
use Rattle.std.specs.Prelude.{ℕ, List}
use Rattle.pv_shelf.specs.declared.face.Face.{Face}

-- what a site shows after so many steps, one face for each of its items, ascending
pub record Part : Type 0 where
  pub steps : ℕ
  pub faces : List Face
