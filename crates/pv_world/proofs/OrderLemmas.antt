-- Two lists of transactions in the same order.
use Rattle.std.proofs.Common.{◌≡◌, ℕ, suc, ◌+◌, ◌<◌, Bool, true, false, List, [], ◌∷◌, ◌++◌, map, filter, drop, length, get_or, add-one, append_assoc, refl, sym, ap, ◌∙◌}
use Rattle.std.specs.Prelude.{if◌then◌else◌}
use Rattle.std.proofs.Math.Seq.{drop-cons}
use Rattle.pv_base.proofs.MapLemmas.{map-map}

-- What is told of those that pass a test, where both are seen in the listed ones.
seen-filter : {A P X : Type 0} (f : A → P) (q : P → Bool) (h : P → X) (xs : List A) → map (λ x. h (f x)) (filter (λ x. q (f x)) xs) ≡ map h (filter q (map f xs))
seen-filter f q h [] = refl
seen-filter f q h (x ∷ xs) = by (q (f x)) (seen-filter f q h xs) where
  by : (b : Bool) → map (λ x. h (f x)) (filter (λ x. q (f x)) xs) ≡ map h (filter q (map f xs))
      → map (λ x. h (f x)) (if b then x ∷ filter (λ x. q (f x)) xs else filter (λ x. q (f x)) xs) ≡ map h (if b then f x ∷ filter q (map f xs) else filter q (map f xs))
  by true rest = ap (λ told. h (f x) ∷ told) rest
  by false rest = rest

-- Two lists that look the same have the same told of those that pass.
pub same-filter : {A B P X : Type 0} (f : A → P) (g : B → P) (q : P → Bool) (h : P → X) (xs : List A) (ys : List B) → map f xs ≡ map g ys
    → map (λ x. h (f x)) (filter (λ x. q (f x)) xs) ≡ map (λ y. h (g y)) (filter (λ y. q (g y)) ys)
same-filter f g q h xs ys same = seen-filter f q h xs ∙ (ap (λ seen. map h (filter q seen)) same ∙ sym (seen-filter g q h ys))

-- They have the same told of all.
pub same-seen : {A B P X : Type 0} (f : A → P) (g : B → P) (h : P → X) (xs : List A) (ys : List B) → map f xs ≡ map g ys → map (λ x. h (f x)) xs ≡ map (λ y. h (g y)) ys
same-seen f g h xs ys same = sym (map-map h f xs) ∙ ap (map h) same ∙ map-map h g ys

-- What was told so far and what is told of those left are all, also after one more.
module _ {A X : Type 0} (p : A → Bool) (h : A → X) (xs : List A) (i : ℕ) (x : A) (within : i < length xs) (is : x ≡ get_or xs i x) (all told after : List X)
    (before : all ≡ told ++ map h (filter p (drop i xs))) where
  left : drop i xs ≡ x ∷ drop (i + 1) xs
  left = drop-cons xs i x within ∙ (ap (λ first. first ∷ drop (suc i) xs) (sym is) ∙ ap (λ k. x ∷ drop k xs) (sym (add-one i)))

  with-test : (b : Bool) → p x ≡ b → all ≡ told ++ map h (if b then x ∷ filter p (drop (i + 1) xs) else filter p (drop (i + 1) xs))
  with-test b test =
      before ∙ ap (λ rest. told ++ map h (filter p rest)) left
      ∙ ap (λ b. told ++ map h (if b then x ∷ filter p (drop (i + 1) xs) else filter p (drop (i + 1) xs))) test

  pub passes-next : p x ≡ true → after ≡ told ++ h x ∷ [] → all ≡ after ++ map h (filter p (drop (i + 1) xs))
  passes-next test more =
      with-test true test ∙ sym (append_assoc told (h x ∷ []) (map h (filter p (drop (i + 1) xs)))) ∙ ap (λ front. front ++ map h (filter p (drop (i + 1) xs))) (sym more)

  pub fails-next : p x ≡ false → after ≡ told → all ≡ after ++ map h (filter p (drop (i + 1) xs))
  fails-next test same = with-test false test ∙ ap (λ front. front ++ map h (filter p (drop (i + 1) xs))) (sym same)
