-- Whose items values are.
use Rattle.std.proofs.Common.{◌≡◌, ℕ, ℤ, true, List, [], ◌∷◌, refl, ap}
use Rattle.std.specs.Prelude.{map}
use Rattle.std.specs.Cmp.Lexicographic.{pointwise_decides}
use Rattle.std.proofs.lemmas.Bool.Decides.{Decides-eqb}
use Rattle.pv_base.specs.Polyvalue.{Case}
use Rattle.pv_base.specs.Want.{Want}
use Rattle.pv_law_outcomes.specs.Coherent.{items_of, wanted_items}
use Rattle.pv_model.specs.Alternatives.{Read}
use Rattle.pv_protocol.specs.Coordinate.{are_values_of}

pub values-items : (wants : List Want) (values : List Read) → are_values_of wants values ≡ true → items_of values ≡ wanted_items wants
values-items wants values is = (pointwise_decides Decides-eqb (items_of values) (wanted_items wants)).0 is

pub shown-items : (cases : Want → List (Case ℤ)) (wants : List Want) → items_of (map (λ (want : Want). record { item = want.item; cases = cases want }) wants) ≡ wanted_items wants
shown-items cases [] = refl
shown-items cases (want ∷ wants) = ap (λ rest. want.item ∷ rest) (shown-items cases wants)

pub written-items : (cases : ℕ → List (Case ℤ)) (items : List ℕ) → items_of (map (λ (item : ℕ). record { item = item; cases = cases item }) items) ≡ items
written-items cases [] = refl
written-items cases (item ∷ items) = ap (λ rest. item ∷ rest) (written-items cases items)
