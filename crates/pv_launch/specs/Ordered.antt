-- Things in an order, each of which is so by its number.
use Rattle.std.specs.Prelude.{ℕ, suc, List, [], ◌∷◌, ⊤}

-- Each is so by its number, from this one on.
abbrev pub Numbered : {A : Type 0} → (ℕ → A → Type 0) → ℕ → List A → Type 0
Numbered R n [] = ⊤
Numbered R n (x ∷ xs) = R n x × Numbered R (suc n) xs

-- There are as many of both, and those of one number are so related.
abbrev pub Paired : {A B : Type 0} → (ℕ → A → B → Type 0) → ℕ → List A → List B → Type 0
Paired R n [] [] = ⊤
Paired R n [] (y ∷ ys) = ⊥
Paired R n (x ∷ xs) [] = ⊥
Paired R n (x ∷ xs) (y ∷ ys) = R n x y × Paired R (suc n) xs ys
