-- Lists in the order of a relation: their parts, and that there is one for its members.
use Rattle.std.proofs.Common.{◌≡◌, ◌⊎◌, ⊎_elim, ℕ, zero, suc, ◌<◌, List, [], ◌∷◌, map, length, get_or, inl, inr, refl, sym, ap, subst, ◌∙◌, arith}
use Rattle.std.specs.List.{AllPairs, Contains}
use Rattle.std.proofs.lemmas.List.{length-map, get_or-map}
use Rattle.std.proofs.lemmas.List.Elements.{All-contains_itself}
use Rattle.std.proofs.lemmas.List.Kept.{AllPairs-cons}
use Rattle.pv_base.proofs.ContainsLemmas.{Contains-first, Contains-behind, Contains-nil, Contains-cases}

module _ {X : Type 0} (R : X → X → Type 0) where
  pub pairs-nil : AllPairs R []
  pairs-nil = λ i j d before within. absurd (omega (arith, within))

  pub pairs-tail : (x : X) (xs : List X) → AllPairs R (x ∷ xs) → AllPairs R xs
  pairs-tail x xs pairs = λ i j d before within. pairs (suc i) (suc j) d (omega (arith, before)) (omega (arith, within))

  pub pairs-first : (x : X) (xs : List X) → AllPairs R (x ∷ xs) → (y : X) → Contains xs y → R x y
  pairs-first x xs pairs y (k, within, at) = subst (R x) at (pairs zero (suc k) y (omega arith) (omega (arith, within)))

  pub pairs-cons : (x : X) (xs : List X) → ((y : X) → Contains xs y → R x y) → AllPairs R xs → AllPairs R (x ∷ xs)
  pairs-cons x xs first pairs = AllPairs-cons R x xs (λ k d within. first _ (All-contains_itself xs k d within)) pairs

  module _ (irreflexive : (x : X) → R x x → ⊥) (transitive : (x y z : X) → R x y → R y z → R x z) where
    same-first : (x : X) (xs : List X) (y : X) (ys : List X) → AllPairs R (x ∷ xs) → AllPairs R (y ∷ ys)
        → (x ≡ y) ⊎ Contains xs y → (y ≡ x) ⊎ Contains ys x → x ≡ y
    same-first x xs y ys up others (inl same) other = same
    same-first x xs y ys up others (inr here) (inl same) = sym same
    same-first x xs y ys up others (inr here) (inr there) =
        absurd (irreflexive x (transitive x y x (pairs-first x xs up y here) (pairs-first y ys others x there)))

    -- What is behind the first of one list is behind the first of the other.
    behind-first : (x : X) (xs : List X) (y : X) (ys : List X) → x ≡ y → AllPairs R (x ∷ xs)
        → ((z : X) → Contains (x ∷ xs) z → Contains (y ∷ ys) z) → (z : X) → Contains xs z → Contains ys z
    behind-first x xs y ys same up kept z h =
        ⊎_elim
        (λ first. absurd (irreflexive x (subst (R x) (sym (same ∙ first)) (pairs-first x xs up z h))))
        (λ behind. behind)
        (Contains-cases y ys z (kept z (Contains-behind x xs z h)))

    -- Two lists in this order with the same members are one.
    pub one-ordered : (xs ys : List X) → AllPairs R xs → AllPairs R ys
        → ((z : X) → Contains xs z → Contains ys z) → ((z : X) → Contains ys z → Contains xs z) → xs ≡ ys
    one-ordered [] [] up others kept back = refl
    one-ordered [] (y ∷ ys) up others kept back = absurd (Contains-nil y (back y (Contains-first y ys)))
    one-ordered (x ∷ xs) [] up others kept back = absurd (Contains-nil x (kept x (Contains-first x xs)))
    one-ordered (x ∷ xs) (y ∷ ys) up others kept back =
        let same : x ≡ y = same-first x xs y ys up others
        (Contains-cases x xs y (back y (Contains-first y ys))) (Contains-cases y ys x (kept x (Contains-first x xs))) in
        ap (λ (z : X). z ∷ xs) same
        ∙ ap (λ (rest : List X). y ∷ rest) (one-ordered xs ys (pairs-tail x xs up) (pairs-tail y ys others)
        (behind-first x xs y ys same up kept) (behind-first y ys x xs (sym same) others back))

pub pairs-map : {X Y : Type 0} (R : Y → Y → Type 0) (f : X → Y) (xs : List X) → AllPairs (λ x y. R (f x) (f y)) xs → AllPairs R (map f xs)
pairs-map R f [] h = λ i j d before within. absurd (omega (arith, within))
pairs-map R f (x ∷ xs) h = λ i j d before within.
    let inside : j < length (x ∷ xs) = omega (arith, within, length-map (x ∷ xs) f) in
    let first : i < length (x ∷ xs) = omega (arith, before, inside) in
    subst (λ z. R (get_or (map f (x ∷ xs)) i d) z) (sym (get_or-map f (x ∷ xs) j x d inside))
    (subst (λ y. R y (f (get_or (x ∷ xs) j x))) (sym (get_or-map f (x ∷ xs) i x d first)) (h i j x before inside))

-- Lists that ascend by a number of each element: one for its members.
pub one-ascending_by : {X : Type 0} (key : X → ℕ) (xs ys : List X)
    → AllPairs (λ x later. key x < key later) xs → AllPairs (λ x later. key x < key later) ys
    → ((z : X) → Contains xs z → Contains ys z) → ((z : X) → Contains ys z → Contains xs z) → xs ≡ ys
one-ascending_by {X} key =
    one-ordered (λ (x later : X). key x < key later) (λ x h. omega (arith, h)) (λ x y z first second. omega (arith, first, second))

-- An element of a list that ascends by a number is the one with its number.
pub same-key : {X : Type 0} (key : X → ℕ) (xs : List X) (x y : X) → AllPairs (λ x later. key x < key later) xs
    → Contains xs x → Contains xs y → key x ≡ key y → x ≡ y
same-key key [] x y up first second same = absurd (Contains-nil x first)
same-key {X} key (z ∷ zs) x y up first second same =
    let below = pairs-first (λ (x later : X). key x < key later) z zs up in
    ⊎_elim
    (λ here. ⊎_elim
    (λ there. sym here ∙ there)
    (λ behind. absurd (omega (arith, below y behind, same, ap key here)))
    (Contains-cases z zs y second))
    (λ later. ⊎_elim
    (λ there. absurd (omega (arith, below x later, same, ap key there)))
    (λ behind. same-key key zs x y (pairs-tail (λ (x later : X). key x < key later) z zs up) later behind same)
    (Contains-cases z zs y second))
    (Contains-cases z zs x first)
