-- Rows of things, one of each site.
use Rattle.std.specs.Prelude.{◌≡◌, ◌≢◌, ℕ, Some, Vec, List, [], ◌∷◌, ◌++◌, slice_get}
use Rattle.std.specs.declared.alloc.Global.{Global}
use Rattle.pv_rings.specs.Rings.{Each}

module _ {A : Type 0} where
  -- At this place of this row stands this.
  abbrev pub StandsAt : List (Vec A Global) → (row place : ℕ) → A → Type 0
  StandsAt rows row place one = (all : Vec A Global) × (slice_get rows row ≡ Some all) × (slice_get all.items place ≡ Some one)

  -- The row of this number has one more, at its end, and the others are as they were.
  abbrev pub AddsTo : (row : ℕ) → A → List (Vec A Global) → List (Vec A Global) → Type 0
  AddsTo row one old new =
      Each (λ k before after. (k ≡ row → after.items ≡ before.items ++ one ∷ []) × (k ≢ row → after.items ≡ before.items)) old new
