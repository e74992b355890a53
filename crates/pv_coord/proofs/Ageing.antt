-- A list that is changed one after another.
use Rattle.std.proofs.Common.{◌≡◌, ℕ, zero, suc, ◌+◌, ◌<◌, List, [], ◌∷◌, ◌++◌, map, length, get_or, set, take, drop, refl, ap, ◌∙◌, arith}
use Rattle.std.proofs.lemmas.List.{append-nil, drop_all, take_all}

module _ {X : Type 0} (f : X → X) where
  -- the list with its first so many changed
  abbrev pub changed_to : ℕ → List X → List X
  changed_to i xs = map f (take i xs) ++ drop i xs

  at-suc : (xs : List X) (i : ℕ) (d : X) → i < length xs → get_or (changed_to i xs) i d ≡ get_or xs i d
  at-suc [] i d within = absurd (omega (arith, within))
  at-suc (x ∷ xs) zero d within = refl
  at-suc (x ∷ xs) (suc i) d within = at-suc xs i d (omega (arith, within))

  set-suc : (xs : List X) (i : ℕ) (d : X) → i < length xs → set (changed_to i xs) i (f (get_or xs i d)) ≡ changed_to (suc i) xs
  set-suc [] i d within = absurd (omega (arith, within))
  set-suc (x ∷ xs) zero d within = refl
  set-suc (x ∷ xs) (suc i) d within = ap (λ (ys : List X). f x ∷ ys) (set-suc xs i d (omega (arith, within)))

  -- What stands at the next place isn't changed yet.
  pub next-unchanged : (xs ys : List X) (i : ℕ) (d : X) → i < length xs → ys ≡ changed_to i xs → get_or ys i d ≡ get_or xs i d
  next-unchanged xs ys i d within is = ap (λ (list : List X). get_or list i d) is ∙ at-suc xs i d within

  -- One more is changed.
  pub one-changed : (xs ys : List X) (i : ℕ) (x : X) → i < length xs → ys ≡ changed_to i xs → x ≡ get_or ys i x → set ys i (f x) ≡ changed_to (i + 1) xs
  one-changed xs ys i x within is here =
      let next : suc i ≡ i + 1 = omega arith in
      ap (λ (list : List X). set list i (f x)) is
      ∙ ap (λ (y : X). set (changed_to i xs) i (f y)) (here ∙ next-unchanged xs ys i x within is)
      ∙ set-suc xs i x within ∙ ap (λ (n : ℕ). changed_to n xs) next

-- A list that is written back over one as long is all that is there.
pub written-back : {X : Type 0} (xs ys : List X) (count : ℕ) → length xs ≡ count → length ys ≡ count → take count (xs ++ drop (length xs) ys) ≡ xs
written-back xs ys count long same =
    ap (λ (rest : List _). take count (xs ++ rest)) (drop_all (length xs) ys (omega (arith, long, same)))
    ∙ ap (take count) (append-nil xs) ∙ take_all count xs (omega (arith, long))
