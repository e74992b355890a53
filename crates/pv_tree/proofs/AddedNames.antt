-- What is in a list once the transactions of nodes are appended, and what of nodes that were seen.
use Rattle.std.proofs.Common.{◌≡◌, ◌⊎◌, ⊎_elim, ℕ, Bool, true, false, List, get_or, replicate, inl, inr, IsTrue, sym, ap, subst, ◌∙◌}
use Rattle.std.specs.List.{Contains}
use Rattle.std.proofs.lemmas.Bool.{false≢true}
use Rattle.pv_base.specs.declared.txn.TxnId.{TxnId}
use Rattle.pv_base.specs.Assignment.{is_same_txn}
use Rattle.pv_base.specs.Polyvalue.{Case, names}
use Rattle.pv_base.proofs.AssignmentLemmas.{same-eq, same-from-eq}
use Rattle.pv_cases.specs.Names.{Adds}
use Rattle.pv_cases.proofs.TestedCases.{IsTested}
use Rattle.pv_cases.proofs.TestLemmas.{test-named, test-names, test-aborted, test-committed}
use Rattle.pv_tree.specs.Meanings.{cases_at}
use Rattle.pv_tree.specs.Settling.{AreSeen}
use Rattle.pv_tree.proofs.NotedLemmas.{all-replicate}

module _ {V : Type 0} where
  -- A test adds its transaction, and what its sides add.
  pub adds-tested : (txn : TxnId) (aborted committed cases : List (Case V)) (old first second new : List TxnId) → IsTested txn aborted committed cases
      → Adds (λ other. is_same_txn other txn) old first → Adds (names aborted) first second → Adds (names committed) second new → Adds (names cases) old new
  adds-tested txn aborted committed cases old first second new at pushed added added-too t =
      let in-second : Contains first t → Contains new t = λ here. (added-too t).1 (inl ((added t).1 (inl here))) in (
        λ here. ⊎_elim
            (λ there. ⊎_elim
            (λ before. ⊎_elim
            (λ stood. inl stood)
            (λ same. inr (subst (λ u. IsTrue (names cases u)) (sym (same-eq {t = t} {u = txn} same)) (test-named at)))
            ((pushed t).0 before))
            (λ named. inr (test-aborted at t named))
            ((added t).0 there))
            (λ named. inr (test-committed at t named))
            ((added-too t).0 here),
        ⊎_elim
            (λ stood. in-second ((pushed t).1 (inl stood)))
            (λ named. ⊎_elim
            (λ same. in-second ((pushed t).1 (inr (same-from-eq (sym same)))))
            (⊎_elim (λ side. (added-too t).1 (inl ((added t).1 (inr side)))) (λ side. (added-too t).1 (inr side)))
            (test-names at t named)),
      )

  -- A node that was seen adds nothing more.
  pub adds-seen : (meanings : List (List (Case V))) (seen : List Bool) (txns : List TxnId) (number : ℕ) → AreSeen meanings seen txns → get_or seen number false ≡ true
      → Adds (names (cases_at meanings number)) txns txns
  adds-seen meanings seen txns number are is t = (λ here. inl here, ⊎_elim (λ stood. stood) (λ named. are number is t named))

  -- What was seen is seen where there are more transactions.
  pub seen-kept : (meanings : List (List (Case V))) (seen : List Bool) (old new : List TxnId) → ((t : TxnId) → Contains old t → Contains new t) → AreSeen meanings seen old
      → AreSeen meanings seen new
  seen-kept meanings seen old new more are number is t named = more t (are number is t named)

  -- One node more is seen.
  pub seen-more : (meanings : List (List (Case V))) (old new : List Bool) (txns : List TxnId) (number : ℕ) → AreSeen meanings old txns
      → ((other : ℕ) → get_or new other false ≡ true → (other ≡ number) ⊎ (get_or old other false ≡ true))
      → ((t : TxnId) → IsTrue (names (cases_at meanings number) t) → Contains txns t) → AreSeen meanings new txns
  seen-more meanings old new txns number are seen all other is t named =
      ⊎_elim
      (λ same. all t (subst (λ (n : ℕ). IsTrue (names (cases_at meanings n) t)) same named))
      (λ before. are other before t named)
      (seen other is)

  -- At first nothing was seen.
  pub none-seen : (meanings : List (List (Case V))) (count : ℕ) (seen : List Bool) (txns : List TxnId) → seen ≡ replicate count false → AreSeen meanings seen txns
  none-seen meanings count seen txns none number is t named =
      absurd (false≢true (sym (all-replicate false count number) ∙ ap (λ (list : List Bool). get_or list number false) (sym none) ∙ is))
