-- Of two lists, one after the other, a relation holds of each element and each later one.
use Rattle.std.proofs.Common.{⊎_elim, List, [], ◌∷◌, ◌++◌}
use Rattle.std.specs.List.{AllPairs, Contains}
use Rattle.std.proofs.lemmas.List.Elements.{Contains-append_cases, Contains-append_left}
use Rattle.pv_base.proofs.ContainsLemmas.{Contains-behind, Contains-first, Contains-nil}
use Rattle.pv_base.proofs.OrderLemmas.{pairs-cons, pairs-first, pairs-nil, pairs-tail}

module _ {X : Type 0} (R : X → X → Type 0) where
  pub pairs-one : (x : X) → AllPairs R (x ∷ [])
  pairs-one x = pairs-cons R x [] (λ later there. absurd (Contains-nil later there)) (pairs-nil R)

  pub pairs-join : (xs ys : List X) → AllPairs R xs → AllPairs R ys → ((x y : X) → Contains xs x → Contains ys y → R x y) → AllPairs R (xs ++ ys)
  pairs-join [] ys first second across = second
  pairs-join (x ∷ xs) ys first second across =
      pairs-cons R x (xs ++ ys)
      (λ y there.
      ⊎_elim (λ inside. pairs-first R x xs first y inside) (λ behind. across x y (Contains-first x xs) behind) (Contains-append_cases xs ys y there))
      (pairs-join xs ys (pairs-tail R x xs first) second (λ a b here there. across a b (Contains-behind x xs a here) there))

  pub pairs-front : (xs ys : List X) → AllPairs R (xs ++ ys) → AllPairs R xs
  pairs-front [] ys pairs = pairs-nil R
  pairs-front (x ∷ xs) ys pairs =
      pairs-cons R x xs (λ y there. pairs-first R x (xs ++ ys) pairs y (Contains-append_left xs ys y there)) (pairs-front xs ys (pairs-tail R x (xs ++ ys) pairs))
