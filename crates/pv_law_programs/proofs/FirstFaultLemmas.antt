-- There is one first fault, and none in what is whole.
use Rattle.std.proofs.Common.{◌≡◌, ℕ, List, [], ◌∷◌, ◌++◌, inl, inr, sym, ap, ◌∙◌, subst, append_assoc}
use Rattle.std.proofs.lemmas.List.{append-nil, map-append}
use Rattle.pv_model.specs.FirstMisplaced.{MayBegin, IsMisplaced, IsFirstFault, without_numbers}

-- xs with the element behind them is a beginning of ys
abbrev IsBefore : {A : Type 0} → List A → A → List A → Type 0
IsBefore {A} xs x ys = (t : List A) × (ys ≡ xs ++ x ∷ t)

-- Two elements of a list are at one place, or one is before the other.
data Places {A : Type 0} (xs : List A) (x : A) (ys : List A) (y : A) : Type 0 where
  same_place : x ≡ y → Places xs x ys y
  comes_before : IsBefore xs x ys → Places xs x ys y
  comes_behind : IsBefore ys y xs → Places xs x ys y

further : {A : Type 0} (a b : A) (xs ys : List A) (x y : A) → a ≡ b → Places xs x ys y → Places (a ∷ xs) x (b ∷ ys) y
further a b xs ys x y e (same_place p) = same_place p
further a b xs ys x y e (comes_before p) = comes_before (p.0, cc (e, p.1))
further a b xs ys x y e (comes_behind p) = comes_behind (p.0, cc (e, p.1))

places : {A : Type 0} (xs : List A) (x : A) (r : List A) (ys : List A) (y : A) (s : List A) → xs ++ x ∷ r ≡ ys ++ y ∷ s → Places xs x ys y
places [] x r [] y s e = same_place cc
places [] x r (b ∷ ys) y s e = let h : b ≡ x = cc in comes_before (ys, ap (λ z. z ∷ ys) h)
places (a ∷ xs) x r [] y s e = let h : a ≡ y = cc in comes_behind (xs, ap (λ z. z ∷ xs) h)
places (a ∷ xs) x r (b ∷ ys) y s e =
    let h : a ≡ b = cc in
    let t : xs ++ x ∷ r ≡ ys ++ y ∷ s = cc in
    further a b xs ys x y h (places xs x r ys y s t)

module _ {A : Type 0} (AreWhole : List A → Type 0) where
  -- A beginning of what may begin may begin.
  begins_shorter : (xs : List A) (x : A) (ys : List A) → IsBefore xs x ys → MayBegin AreWhole ys → MayBegin AreWhole (xs ++ x ∷ [])
  begins_shorter xs x ys p good =
      let e : ys ++ good.0 ≡ (xs ++ x ∷ []) ++ (p.0 ++ good.0) =
      ap (λ (l : List A). l ++ good.0) p.1 ∙ append_assoc xs (x ∷ p.0) good.0 ∙ sym (append_assoc xs (x ∷ []) (p.0 ++ good.0)) in
      (p.0 ++ good.0, subst AreWhole e good.1)

  before_without : (xs : List (ℕ × A)) (x : ℕ × A) (ys : List (ℕ × A)) → IsBefore xs x ys → IsBefore (without_numbers xs) x.1 (without_numbers ys)
  before_without xs x ys p = (without_numbers p.0, ap without_numbers p.1 ∙ map-append (λ (l : ℕ × A). l.1) xs (x ∷ p.0))

  -- a line that is misplaced isn't part of what may begin
  refuted : (numbered ys : List (ℕ × A)) (n : ℕ) (p : IsMisplaced AreWhole numbered n) → IsBefore p.front (n, p.line) ys → MayBegin AreWhole (without_numbers ys) → ⊥
  refuted numbered ys n p before good = p.bad (begins_shorter (without_numbers p.front) p.line (without_numbers ys) (before_without p.front (n, p.line) ys before) good)

  one_misplaced : (numbered : List (ℕ × A)) (m n : ℕ) → IsMisplaced AreWhole numbered m → IsMisplaced AreWhole numbered n → m ≡ n
  one_misplaced numbered m n p q = elim (places p.front (m, p.line) p.rest q.front (n, q.line) q.rest (sym p.split ∙ q.split)) [
    | same_place e ↦ ap (λ (l : ℕ × A). l.0) e
    | comes_before b ↦ absurd (refuted numbered q.front m p b q.good)
    | comes_behind b ↦ absurd (refuted numbered p.front n q b p.good)
  ]

  pub one_fault : (numbered : List (ℕ × A)) (behind m n : ℕ) → IsFirstFault AreWhole numbered behind m → IsFirstFault AreWhole numbered behind n → m ≡ n
  one_fault numbered behind m n (inl p) (inl q) = one_misplaced numbered m n p q
  one_fault numbered behind m n (inl p) (inr q) = absurd (refuted numbered numbered m p (p.rest, p.split) q.good)
  one_fault numbered behind m n (inr p) (inl q) = absurd (refuted numbered numbered n q (q.rest, q.split) p.good)
  one_fault numbered behind m n (inr p) (inr q) = p.place ∙ sym q.place

  pub no_fault : (numbered : List (ℕ × A)) (behind n : ℕ) → AreWhole (without_numbers numbered) → IsFirstFault AreWhole numbered behind n → ⊥
  no_fault numbered behind n whole (inl p) =
      refuted numbered numbered n p (p.rest, p.split) ([], subst AreWhole (sym (append-nil (without_numbers numbered))) whole)
  no_fault numbered behind n whole (inr p) = p.bad whole
