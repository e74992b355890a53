-- What is in a list once the transactions of a tree's tests are appended.
use Rattle.std.proofs.Common.{◌≡◌, ⊎_elim, List, [], ◌∷◌, ◌++◌, inl, inr, IsTrue, sym, subst}
use Rattle.std.specs.List.{Contains}
use Rattle.std.proofs.lemmas.List.Elements.{Contains-append_left, Contains-push, Contains-push_cases}
use Rattle.pv_base.specs.declared.txn.TxnId.{TxnId}
use Rattle.pv_base.specs.Polyvalue.{Case, names}
use Rattle.pv_cases.specs.Names.{Adds}
use Rattle.pv_cases.proofs.TestedCases.{IsTested}
use Rattle.pv_cases.proofs.TestLemmas.{test-named, test-names, test-aborted, test-committed}

module _ {V : Type 0} where
  -- A test adds its transaction, and what its sides add.
  pub adds-test : (txn : TxnId) (aborted committed cases one other : List (Case V)) (old first second new : List TxnId) → IsTested txn aborted committed cases
      → one ≡ aborted → other ≡ committed → first ≡ old ++ txn ∷ [] → Adds (names one) first second → Adds (names other) second new → Adds (names cases) old new
  adds-test txn aborted committed cases one other old first second new at is-aborted is-committed pushed added added-too t =
      let in-second : Contains first t → Contains new t = λ here. (added-too t).1 (inl ((added t).1 (inl here))) in (
        λ here. ⊎_elim
            (λ there. ⊎_elim
            (λ before. ⊎_elim
            (λ stood. inl stood)
            (λ same. inr (subst (λ u. IsTrue (names cases u)) same (test-named at)))
            (Contains-push_cases old txn t (subst (λ list. Contains list t) pushed before)))
            (λ named. inr (test-aborted at t (subst (λ (side : List (Case V)). IsTrue (names side t)) is-aborted named)))
            ((added t).0 there))
            (λ named. inr (test-committed at t (subst (λ (side : List (Case V)). IsTrue (names side t)) is-committed named)))
            ((added-too t).0 here),
        ⊎_elim
            (λ stood. in-second (subst (λ list. Contains list t) (sym pushed) (Contains-append_left old (txn ∷ []) t stood)))
            (λ named. ⊎_elim
            (λ same. in-second (subst (λ list. Contains list t) (sym pushed) (subst (λ u. Contains (old ++ txn ∷ []) u) same (Contains-push old txn))))
            (⊎_elim
            (λ side. (added-too t).1 (inl ((added t).1 (inr (subst (λ (cases : List (Case V)). IsTrue (names cases t)) (sym is-aborted) side)))))
            (λ side. (added-too t).1 (inr (subst (λ (cases : List (Case V)). IsTrue (names cases t)) (sym is-committed) side))))
            (test-names at t named)),
      )
