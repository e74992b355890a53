-- Bytes that a host asks for.
use Rattle.std.specs.Prelude.{◌≡◌, ℕ, ◌<◌, ◌≤◌, List, ◌++◌, length, drop}
use Rattle.pv_handle.specs.declared.given.Given.{Given}
use Rattle.pv_handle.specs.declared.given.Given.TheVariants.{Nothing, Bytes, TooSmall}

-- All of these bytes are written and it is said where they go, or none for want of room.
abbrev pub GivesBytes : List ℕ → ℕ → List ℕ → List ℕ → Given → Type 0
GivesBytes bytes goes_to room out Nothing = ⊥
GivesBytes bytes goes_to room out (Bytes count to) = (count ≡ length bytes) × (to ≡ goes_to) × (length bytes ≤ length room) × (out ≡ bytes ++ drop count room)
GivesBytes bytes goes_to room out (TooSmall needed) = (needed ≡ length bytes) × (length room < length bytes) × (out ≡ room)
