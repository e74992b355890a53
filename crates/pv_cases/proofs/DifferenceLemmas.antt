-- Lists are equal, or differ first at some place.
use Rattle.std.proofs.Common.{◌≡◌, ℕ, zero, suc, ◌<◌, ◌≤◌, List, [], ◌∷◌, length, take, refl, sym, ap₂, arith}
use Rattle.std.specs.Prelude.{slice_get}
use Rattle.std.proofs.lemmas.Option.{none-some}
use Rattle.pv_base.proofs.Basics.{Some_inj}

-- Lists that are the same at each place are equal.
pub same-everywhere : {X : Type 0} (n : ℕ) (xs ys : List X) → length xs ≤ n → length ys ≤ n → ((k : ℕ) → k < n → slice_get xs k ≡ slice_get ys k) → xs ≡ ys
same-everywhere n [] [] short small same = refl
same-everywhere zero [] (y ∷ ys) short small same = absurd (omega (arith, small))
same-everywhere (suc n) [] (y ∷ ys) short small same = absurd (none-some _ (same 0 (omega arith)))
same-everywhere zero (x ∷ xs) ys short small same = absurd (omega (arith, short))
same-everywhere (suc n) (x ∷ xs) [] short small same = absurd (none-some _ (sym (same 0 (omega arith))))
same-everywhere (suc n) (x ∷ xs) (y ∷ ys) short small same =
    ap₂ (λ (z : _) (zs : List _). z ∷ zs) (Some_inj (same 0 (omega arith)))
    (same-everywhere n xs ys (omega (arith, short)) (omega (arith, small)) (λ k below. same (suc k) (omega (arith, below))))

-- Lists that are the same at each place before one are equal up to it.
pub same-before : {X : Type 0} (n : ℕ) (xs ys : List X) → ((k : ℕ) → k < n → slice_get xs k ≡ slice_get ys k) → take n xs ≡ take n ys
same-before zero xs ys same = refl
same-before (suc n) [] [] same = refl
same-before (suc n) [] (y ∷ ys) same = absurd (none-some _ (same 0 (omega arith)))
same-before (suc n) (x ∷ xs) [] same = absurd (none-some _ (sym (same 0 (omega arith))))
same-before (suc n) (x ∷ xs) (y ∷ ys) same =
    ap₂ (λ (z : _) (zs : List _). z ∷ zs) (Some_inj (same 0 (omega arith)))
    (same-before n xs ys (λ k below. same (suc k) (omega (arith, below))))
