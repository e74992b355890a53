-- Lists of what is published, in order.
use Rattle.std.specs.Prelude.{◌≡◌, ℕ, ◌<◌, ◌-◌, List, [], ◌∷◌, length, slice_get, Option, All}
use Rattle.std.specs.List.{AllPairs}
use Rattle.std.specs.Option.{option_map_or}
use Rattle.pv_shelf.specs.Part.{Part}

-- the last part, if there is one
abbrev pub latest : List Part → Option Part
latest log = slice_get log (length log - 1)

-- the steps of the last part
abbrev pub steps_of : List Part → ℕ
steps_of log = option_map_or (λ part. part.steps) (latest log) 0

-- how many faces the first part has
abbrev pub width_of : List Part → ℕ
width_of [] = 0
width_of (part ∷ log) = length part.faces

-- Each part has as many faces as the first, and is of fewer steps than those after it.
pub record IsLog (log : List Part) : Type 0 where
  pub even : All (λ part. length part.faces ≡ width_of log) log
  pub rising : AllPairs (λ part later. part.steps < later.steps) log
