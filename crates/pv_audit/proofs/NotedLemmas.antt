-- Outcomes that are noted of ascending transactions, one after another.
use Rattle.std.proofs.Common.{⊎_elim, Bool, List, [], ◌∷◌, ◌++◌, ◌<◌, ◌+◌, ℕ, subst, drop, get_or, length}
use Rattle.std.specs.Prelude.{IsTrue}
use Rattle.std.specs.List.{AllPairs, Contains}
use Rattle.std.proofs.lemmas.List.{at_drop_more}
use Rattle.std.proofs.lemmas.List.Elements.{Contains-append_cases}
use Rattle.pv_base.specs.Assignment.{AreAscending, precedes}
use Rattle.pv_base.specs.Polyvalue.{AreOutcomes}
use Rattle.pv_base.specs.declared.literal.Literal.{Literal}
use Rattle.pv_base.specs.declared.txn.TxnId.{TxnId}
use Rattle.pv_base.proofs.ContainsLemmas.{Contains-behind, Contains-cases, Contains-first, Contains-nil}
use Rattle.pv_base.proofs.OrderLemmas.{pairs-cons, pairs-first, pairs-nil, pairs-tail}
use Rattle.pv_law_polyvalues.proofs.AscendingLemmas.{ascending-first, ascending-tail}

module _ {X : Type 0} (R : X → X → Type 0) where
  pairs-push : (xs : List X) (y : X) → AllPairs R xs → ((x : X) → Contains xs x → R x y) → AllPairs R (xs ++ y ∷ [])
  pairs-push [] y pairs before = pairs-cons R y [] (λ z none. absurd (Contains-nil z none)) (pairs-nil R)
  pairs-push (x ∷ xs) y pairs before =
      pairs-cons R x (xs ++ y ∷ [])
      (λ z there. ⊎_elim
      (λ here. pairs-first R x xs pairs z here)
      (λ last. ⊎_elim (λ same. subst (R x) same (before x (Contains-first x xs))) (λ none. absurd (Contains-nil z none)) (Contains-cases y [] z last))
      (Contains-append_cases xs (y ∷ []) z there))
      (pairs-push xs y (pairs-tail R x xs pairs) (λ z there. before z (Contains-behind x xs z there)))

-- The literals ascend, and are on transactions before all that are left.
pub record AreNoted (literals : List Literal) (left : List TxnId) : Type 0 where
  pub up : AreAscending left
  pub outcomes : AreOutcomes literals
  pub before : (literal : Literal) → Contains literals literal → (t : TxnId) → Contains left t → IsTrue (precedes literal.txn t)

pub noted-none : (left : List TxnId) → AreAscending left → AreNoted [] left
noted-none left up = record {
  up = up;
  outcomes = pairs-nil (λ (l later : Literal). IsTrue (precedes l.txn later.txn));
  before = λ literal none. absurd (Contains-nil literal none);
}

noted-passed : (literals : List Literal) (t : TxnId) (left : List TxnId) → AreNoted literals (t ∷ left) → AreNoted literals left
noted-passed literals t left noted = record {
  up = ascending-tail t left noted.up;
  outcomes = noted.outcomes;
  before = λ literal there u later. noted.before literal there u (Contains-behind t left u later);
}

noted-more : (literals : List Literal) (t : TxnId) (left : List TxnId) (outcome : Bool) → AreNoted literals (t ∷ left) → AreNoted (literals ++ record { txn = t; commits = outcome } ∷ []) left
noted-more literals t left outcome noted = record {
  up = ascending-tail t left noted.up;
  outcomes = pairs-push (λ (l later : Literal). IsTrue (precedes l.txn later.txn)) literals (record { txn = t; commits = outcome }) noted.outcomes
      (λ literal there. noted.before literal there t (Contains-first t left));
  before = λ literal there u later.
      ⊎_elim
      (λ old. noted.before literal old u (Contains-behind t left u later))
      (λ last. ⊎_elim
      (λ same. subst (λ (l : Literal). IsTrue (precedes l.txn u)) same (ascending-first t left noted.up u later))
      (λ none. absurd (Contains-nil literal none))
      (Contains-cases (record { txn = t; commits = outcome }) [] literal last))
      (Contains-append_cases literals (record { txn = t; commits = outcome } ∷ []) literal there);
}

-- The next of the transactions that are gone through.
module _ (literals : List Literal) (txns : List TxnId) (i : ℕ) (d : TxnId) (within : i < length txns) (noted : AreNoted literals (drop i txns)) where
  next-left : AreNoted literals (get_or txns i d ∷ drop (i + 1) txns)
  next-left = subst (AreNoted literals) (at_drop_more (λ (left : List TxnId). left) txns i d within) noted

  pub next-passed : AreNoted literals (drop (i + 1) txns)
  next-passed = noted-passed literals (get_or txns i d) (drop (i + 1) txns) next-left

  pub next-noted : (outcome : Bool) → AreNoted (literals ++ record { txn = get_or txns i d; commits = outcome } ∷ []) (drop (i + 1) txns)
  next-noted outcome = noted-more literals (get_or txns i d) (drop (i + 1) txns) outcome next-left
