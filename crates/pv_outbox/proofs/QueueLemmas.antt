-- What a heap holds after a push and after a pop, by what is seen of its elements.
use Rattle.std.proofs.Common.{◌≡◌, ⊎_elim, ℕ, ◌<◌, ◌≤◌, ◌+◌, Option, Some, None, List, [], ◌∷◌, length, get_or, refl, sym, ap, subst, ◌∙◌, arith}
use Rattle.std.specs.Prelude.{All, IfNone, IfSome, IsPermutation, map, slice_get}
use Rattle.std.specs.BinaryHeap.{IsUpperBound}
use Rattle.std.specs.List.{Contains}
use Rattle.std.specs.Ordering.{nat_cmp}
use Rattle.std.proofs.lemmas.List.{length-map}
use Rattle.std.proofs.lemmas.List.Elements.{All-cons, All-nil, All-head}
use Rattle.std.proofs.lemmas.List.Sorted.{Contains-permutation, le_from_greatest, length_permutation}
use Rattle.pv_base.proofs.ContainsLemmas.{Contains-first, Contains-behind, Contains-cases}
use Rattle.pv_base.proofs.MapLemmas.{Contains-map, Contains-unmap}

module _ {X : Type 0} (f : X → ℕ) where
  -- The top is seen first.
  pub top-there : (xs : List X) (x : X) → 0 < length xs → x ≡ get_or xs 0 x → slice_get (map f xs) 0 ≡ Some (f x)
  top-there [] x inside is = absurd (omega (arith, inside))
  top-there (y ∷ xs) x inside is = ap (λ (z : X). Some (f z)) (sym is)

  pub none-there : (xs : List X) → length xs ≤ 0 → map f xs ≡ []
  none-there [] empty = refl
  none-there (x ∷ xs) empty = absurd (omega (arith, empty))

  -- The greatest in the opposite order is the least.
  pub top-least : (x : X) (xs : List X) → IsUpperBound (λ a b. nat_cmp (f b) (f a)) x xs → All (λ n. f x ≤ n) (map f xs)
  top-least x [] bound = All-nil (λ n. f x ≤ n)
  top-least x (y ∷ xs) bound =
      All-cons (λ n. f x ≤ n) (f y) (map f xs)
      (All-head (λ n. n ≤ f y) (f x) [] (le_from_greatest (f y) (f x ∷ []) (bound.0, tt)))
      (top-least x xs bound.1)

  module _ (x : X) (old new : List X) (pushed : IsPermutation (x ∷ old) new) where
    pub pushed-there : Contains (map f new) (f x)
    pushed-there = Contains-map f new x (Contains-permutation (x ∷ old) new x pushed (Contains-first x old))

    pub pushed-kept : (n : ℕ) → Contains (map f old) n → Contains (map f new) n
    pushed-kept n is =
        let found = Contains-unmap f old n is in
        subst (Contains (map f new)) found.1.1
        (Contains-map f new found.0 (Contains-permutation (x ∷ old) new found.0 pushed (Contains-behind x old found.0 found.1.0)))

  popped-kept : (x : X) (old new : List X) → IsPermutation old (x ∷ new) → (n : ℕ) → Contains (map f old) n → (f x ≡ n → ⊥) → Contains (map f new) n
  popped-kept x old new popped n is other =
      let found = Contains-unmap f old n is in
      ⊎_elim
      (λ same. absurd (other (ap f same ∙ found.1.1)))
      (λ behind. subst (Contains (map f new)) found.1.1 (Contains-map f new found.0 behind))
      (Contains-cases x new found.0 (Contains-permutation old (x ∷ new) found.0 popped found.1.0))

  shorter : (x : X) (old new : List X) → IsPermutation old (x ∷ new) → length old ≡ length new + 1
  shorter x old new popped = omega (arith, length_permutation old (x ∷ new) popped)

  -- All but the top are there after a pop.
  pub dropped-others : (Q : Type 0) (popped : Option X) (old new : List X) → IfSome popped (λ x. x ≡ get_or old 0 x) → IfSome popped (λ x. IsPermutation old (x ∷ new))
      → IfNone popped ((new ≡ old) × Q) → (n : ℕ) → Contains (map f old) n → (slice_get (map f old) 0 ≡ Some n → ⊥) → Contains (map f new) n
  dropped-others Q None old new top shuffled same n is other = subst (λ (xs : List X). Contains (map f xs) n) (sym same.0) is
  dropped-others Q (Some x) old new top shuffled same n is other =
      popped-kept x old new shuffled n is
      (λ is_top. other (top-there old x (omega (arith, shorter x old new shuffled)) top ∙ ap Some is_top))

  -- And there is one less.
  pub dropped-fewer : (popped : Option X) (old new : List X) (count : ℕ) → count ≡ length old → IfSome popped (λ x. IsPermutation old (x ∷ new)) → IfNone popped (count ≡ 0)
      → 0 < length (map f old) → length (map f new) < length (map f old)
  dropped-fewer None old new count is shuffled empty inside = absurd (omega (arith, inside, is, empty, length-map old f))
  dropped-fewer (Some x) old new count is shuffled empty inside = omega (arith, shorter x old new shuffled, length-map old f, length-map new f)
