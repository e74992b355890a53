-- What holds of each member of a list.
use Rattle.std.proofs.Common.{◌≡◌, ℕ, zero, suc, Some, None, Option, List, [], ◌∷◌, subst}
use Rattle.std.specs.Prelude.{All, slice_get, ⊤}
use Rattle.std.specs.List.{Contains, flat_map}
use Rattle.std.proofs.lemmas.List.Elements.{All-append, All-contains, All-contains_itself, All-nil}
use Rattle.pv_base.proofs.ContainsLemmas.{Contains-first, Contains-behind}

module _ {X : Type 0} (P : X → Type 0) where
  pub all-from : (xs : List X) → ((x : X) → Contains xs x → P x) → All P xs
  all-from xs each = λ k d within. each _ (All-contains_itself xs k d within)

  pub all-head : (x : X) (xs : List X) → All P (x ∷ xs) → P x
  all-head x xs all = All-contains P (x ∷ xs) x all (Contains-first x xs)

  pub all-tail : (x : X) (xs : List X) → All P (x ∷ xs) → All P xs
  all-tail x xs all = all-from xs (λ y h. All-contains P (x ∷ xs) y all (Contains-behind x xs y h))

  -- It holds of what there is.
  abbrev pub OfSome : Option X → Type 0
  OfSome None = ⊤
  OfSome (Some x) = P x

  pub of-some : (o : Option X) (x : X) → OfSome o → o ≡ Some x → P x
  of-some None x h is = absurd (let wrong : ⊥ = cc in wrong)
  of-some (Some y) x h is = let same : y ≡ x = cc in subst P same h

  pub slice-of : (xs : List X) (n : ℕ) → All P xs → OfSome (slice_get xs n)
  slice-of [] n all = tt
  slice-of (x ∷ xs) zero all = all-head x xs all
  slice-of (x ∷ xs) (suc n) all = slice-of xs n (all-tail x xs all)

  pub all-flat : {Y : Type 0} (f : Y → List X) (ys : List Y) → ((y : Y) → Contains ys y → All P (f y)) → All P (flat_map f ys)
  all-flat f [] each = All-nil P
  all-flat f (y ∷ ys) each =
      All-append P (f y) (flat_map f ys) (each y (Contains-first y ys)) (all-flat f ys (λ z h. each z (Contains-behind y ys z h)))
