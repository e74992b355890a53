-- Lists in which what passes a test stands before the rest.
use Rattle.std.specs.Prelude.{ℕ, suc, Bool, List, [], ◌∷◌, if◌then◌else◌}

module _ {X : Type 0} (before : X → Bool) where
  -- where the rest begins
  abbrev pub place : List X → ℕ
  place [] = 0
  place (first ∷ rest) = if before first then suc (place rest) else 0

  -- the list with one more element at that place
  abbrev pub put : X → List X → List X
  put x [] = x ∷ []
  put x (first ∷ rest) = if before first then first ∷ put x rest else x ∷ (first ∷ rest)
