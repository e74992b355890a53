-- Lists that are cut, tested and filtered.
use Rattle.std.proofs.Common.{◌≡◌, ⊎_elim, List, [], ◌∷◌, ◌++◌, ap, subst}
use Rattle.std.specs.List.{AllPairs, Contains}
use Rattle.std.proofs.lemmas.List.Elements.{Contains-append_right, Contains-append_cases}
use Rattle.pv_base.proofs.ContainsLemmas.{Contains-first, Contains-behind, Contains-nil, Contains-cases}
use Rattle.pv_base.proofs.OrderLemmas.{pairs-nil, pairs-tail, pairs-first, pairs-cons}

-- A list cut at one of its elements.
pub record Cut {X : Type 0} (xs : List X) (x : X) : Type 0 where
  pub front : List X
  pub rest : List X
  pub split : xs ≡ front ++ x ∷ rest

pub cut-at : {X : Type 0} (xs : List X) (x : X) → Contains xs x → Cut xs x
cut-at [] x h = absurd (Contains-nil x h)
cut-at (y ∷ ys) x h =
    ⊎_elim
    (λ same. record { front = []; rest = ys; split = ap (λ z. z ∷ ys) same })
    (λ behind. let cut = cut-at ys x behind in record { front = y ∷ cut.front; rest = cut.rest; split = ap (λ rest. y ∷ rest) cut.split })
    (Contains-cases y ys x h)

module _ {X : Type 0} (R : X → X → Type 0) where
  -- Of two stretches of a list, each element of the first comes before each of the second.
  pub pairs-across : (xs ys : List X) → AllPairs R (xs ++ ys) → (x y : X) → Contains xs x → Contains ys y → R x y
  pairs-across [] ys pairs x y first second = absurd (Contains-nil x first)
  pairs-across (z ∷ xs) ys pairs x y first second =
      ⊎_elim
      (λ same. subst (λ w. R w y) same (pairs-first R z (xs ++ ys) pairs y (Contains-append_right xs ys y second)))
      (λ behind. pairs-across xs ys (pairs-tail R z (xs ++ ys) pairs) x y behind second)
      (Contains-cases z xs x first)

  pub pairs-rest : (xs ys : List X) → AllPairs R (xs ++ ys) → AllPairs R ys
  pairs-rest [] ys pairs = pairs
  pairs-rest (x ∷ xs) ys pairs = pairs-rest xs ys (pairs-tail R x (xs ++ ys) pairs)

  -- One more at the end, before which all others come.
  pub pairs-more : (xs : List X) (y : X) → AllPairs R xs → ((x : X) → Contains xs x → R x y) → AllPairs R (xs ++ y ∷ [])
  pairs-more [] y pairs all = pairs-cons R y [] (λ z h. absurd (Contains-nil z h)) (pairs-nil R)
  pairs-more (x ∷ xs) y pairs all =
      pairs-cons R x (xs ++ y ∷ [])
      (λ z h. ⊎_elim
      (λ old. pairs-first R x xs pairs z old)
      (λ new. ⊎_elim (λ same. subst (R x) same (all x (Contains-first x xs))) (λ none. absurd (Contains-nil z none)) (Contains-cases y [] z new))
      (Contains-append_cases xs (y ∷ []) z h))
      (pairs-more xs y (pairs-tail R x xs pairs) (λ z h. all z (Contains-behind x xs z h)))

-- Pairs that are in one relation are in a wider one.
pub pairs-wider : {X : Type 0} (R S : X → X → Type 0) (xs : List X) → ((x y : X) → R x y → S x y) → AllPairs R xs → AllPairs S xs
pairs-wider R S xs wider pairs = λ i j d before within. wider _ _ (pairs i j d before within)
