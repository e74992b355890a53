-- Why cases that were read whole aren't taken for a polyvalue.
use Rattle.std.specs.Prelude.{◌≡◌, ◌⊎◌, ℕ, ℤ, List}
use Rattle.pv_base.specs.Polyvalue.{Case, IsPolyvalue}
use Rattle.pv_base.specs.declared.limits.TheConstants.{HELD_NAMES}
use Rattle.pv_replay.specs.declared.error.PolyError.{PolyError}
use Rattle.pv_replay.specs.declared.error.PolyError.TheVariants.{BadPoly, NoMemory}

-- There was no memory, or the error tells this place and the cases are no polyvalue.
abbrev pub IsRefused : List (Case ℤ) → ℕ → PolyError → Type 0
IsRefused cases place e = (e ≡ NoMemory) ⊎ ((e ≡ BadPoly place) × (IsPolyvalue HELD_NAMES cases → ⊥))
