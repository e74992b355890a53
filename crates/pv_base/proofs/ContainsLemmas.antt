-- What a list contains.
use Rattle.std.proofs.Common.{◌≡◌, ◌⊎◌, ⊎_elim, zero, suc, Bool, true, false, List, [], ◌∷◌, inl, inr, cond, refl, ap, subst, ◌∙◌, arith}
use Rattle.std.specs.List.{Contains, filter}
use Rattle.std.proofs.lemmas.Bool.{false≢true}

pub Contains-first : {X : Type 0} (x : X) (xs : List X) → Contains (x ∷ xs) x
Contains-first x xs = (zero, omega arith, refl)

pub Contains-behind : {X : Type 0} (x : X) (xs : List X) (y : X) → Contains xs y → Contains (x ∷ xs) y
Contains-behind x xs y (k, l, at) = (suc k, omega (arith, l), at)

pub Contains-nil : {X : Type 0} (x : X) → Contains [] x → ⊥
Contains-nil x (k, l, at) = absurd (omega (arith, l))

pub Contains-cases : {X : Type 0} (x : X) (xs : List X) (y : X) → Contains (x ∷ xs) y → (x ≡ y) ⊎ Contains xs y
Contains-cases x xs y (zero, l, at) = inl at
Contains-cases x xs y (suc k, l, at) = inr (k, omega (arith, l), at)

Contains-passed : {X : Type 0} (b : Bool) (x : X) (xs : List X) → b ≡ true → Contains (cond b (x ∷ xs) xs) x
Contains-passed true x xs h = Contains-first x xs
Contains-passed false x xs h = absurd (false≢true h)

Contains-tested : {X : Type 0} (b : Bool) (x : X) (xs : List X) (y : X) → Contains xs y → Contains (cond b (x ∷ xs) xs) y
Contains-tested true x xs y h = Contains-behind x xs y h
Contains-tested false x xs y h = h

-- What passes the test stays.
pub Contains-filter : {X : Type 0} (p : X → Bool) (xs : List X) (x : X) → p x ≡ true → Contains xs x → Contains (filter p xs) x
Contains-filter p [] x is h = absurd (Contains-nil x h)
Contains-filter p (y ∷ ys) x is h =
    ⊎_elim
    (λ same. subst (λ z. Contains (cond (p y) (y ∷ filter p ys) (filter p ys)) z) same
    (Contains-passed (p y) y (filter p ys) (ap p same ∙ is)))
    (λ behind. Contains-tested (p y) y (filter p ys) x (Contains-filter p ys x is behind))
    (Contains-cases y ys x h)
