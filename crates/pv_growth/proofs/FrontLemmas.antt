-- When a list begins with another, by its places.
use Rattle.std.proofs.Common.{◌≡◌, ℕ, ◌<◌, ◌≤◌, suc, List, [], ◌∷◌, ◌++◌, length, refl, ap, ap₂, ◌∙◌, arith}
use Rattle.std.specs.Prelude.{slice_get}
use Rattle.pv_base.proofs.Basics.{Some_inj}
use Rattle.pv_law_growth.proofs.GrowthLemmas.{front-get}

pub front-of : {X : Type 0} (xs ys : List X) → length xs ≤ length ys → ((k : ℕ) → k < length xs → slice_get ys k ≡ slice_get xs k)
    → (more : List X) × (ys ≡ xs ++ more)
front-of [] ys short same = (ys, refl)
front-of (x ∷ xs) [] short same = absurd (omega (arith, short))
front-of (x ∷ xs) (y ∷ ys) short same =
    let first : y ≡ x = Some_inj (same 0 (omega arith)) in
    let rest = front-of xs ys (omega (arith, short)) (λ k below. same (suc k) (omega (arith, below))) in
    (rest.0, ap₂ (λ z l. z ∷ l) first rest.1)

pub places-of : {X : Type 0} (xs ys more : List X) → ys ≡ xs ++ more → (k : ℕ) → k < length xs → slice_get ys k ≡ slice_get xs k
places-of xs ys more is k below = ap (λ l. slice_get l k) is ∙ front-get xs more k below
