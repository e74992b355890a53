-- What stands at a place of a list that has one more at its end.
use Rattle.std.proofs.Common.{◌≡◌, ℕ, Some, List, [], ◌∷◌, ◌++◌, length, refl, ◌∙◌, ap, arith}
use Rattle.std.specs.Prelude.{slice_get}
use Rattle.std.proofs.lemmas.List.{get_or_append_left, get_or_push, length_push}
use Rattle.std.proofs.lemmas.Option.{get_or_from_slice_get, slice_get-get_or, slice_get_within}

module _ {A : Type 0} where
  pub left-place : (xs : List A) (k : ℕ) (x y : A) → slice_get xs k ≡ Some x → slice_get (xs ++ y ∷ []) k ≡ Some x
  left-place xs k x y is =
      let within = slice_get_within xs k x is in
      let long = length_push xs y in
      slice_get-get_or (xs ++ y ∷ []) k x (omega (arith, within, long))
      ∙ ap (λ v. Some v) (get_or_append_left xs (y ∷ []) x k within ∙ get_or_from_slice_get xs k x x is)

  pub last-place : (xs : List A) (x : A) → slice_get (xs ++ x ∷ []) (length xs) ≡ Some x
  last-place xs x =
      let long = length_push xs x in
      slice_get-get_or (xs ++ x ∷ []) (length xs) x (omega (arith, long)) ∙ ap (λ v. Some v) (get_or_push xs x x (length xs) refl)
