-- What is sorted and freed of repeats is ascending, and has the members that it had.
use Rattle.std.proofs.Common.{◌≡◌, Bool, List, [], ◌∷◌, IsTrue, Less, is_lt, sym, ap, ◌∙◌, arith}
use Rattle.std.specs.Prelude.{◌↔◌}
use Rattle.std.specs.List.{Contains, dedup}
use Rattle.std.specs.List.Sorted.{IsSorted, IsPermutation, IsStrictlySortedBy}
use Rattle.std.specs.Cmp.{IsEquivalence}
use Rattle.std.proofs.lemmas.List.Elements.{All-weaker}
use Rattle.std.proofs.lemmas.List.Kept.{AllPairs-cons, Contains-dedup, Contains-from_dedup, IsStrictlySortedBy-dedup}
use Rattle.std.proofs.lemmas.List.Sorted.{Contains-permutation, IsPermutation-sym}
use Rattle.std.proofs.lemmas.Map.Keys.{sorted_tail}
use Rattle.std.proofs.lemmas.Map.Views.{All-after_first}
use Rattle.pv_base.specs.declared.txn.TxnId.{TxnId}
use Rattle.pv_base.specs.Assignment.{is_same_txn, txn_cmp, precedes}
use Rattle.pv_law_polyvalues.proofs.AscendingLemmas.{Ascending}
use Rattle.pv_base.proofs.AssignmentLemmas.{same-refl, same-eq, same-sym}
use Rattle.pv_cases.proofs.TxnTests.{txn-total, ties}

-- The order.

-- Each of an ascending list is before all that come after it.
strictly-ascending : (txns : List TxnId) → IsStrictlySortedBy txn_cmp txns → Ascending txns
strictly-ascending [] h = λ i j d before within. absurd (omega (arith, within))
strictly-ascending (txn ∷ txns) h =
    AllPairs-cons (λ txn later. IsTrue (precedes txn later)) txn txns
    (All-weaker (λ (later : TxnId). txn_cmp txn later ≡ Less) (λ (later : TxnId). IsTrue (precedes txn later)) (λ later before. ap is_lt before) txns
    (All-after_first txn_cmp txn txns h))
    (strictly-ascending txns (sorted_tail txn_cmp txn txns h))

module _ {E : TxnId → TxnId → Bool} (same : (t u : TxnId) → E t u ≡ is_same_txn t u) where
  same-equivalence : IsEquivalence E
  same-equivalence = record {
    refl = λ t. same t t ∙ same-refl t;
    symm = λ t u. same t u ∙ same-sym t u ∙ sym (same u t);
    congr = λ t u v test. ap (λ (w : TxnId). E w v) (same-eq {t = t} {u = u} (sym (same t u) ∙ test));
  }

  -- Sorted and freed of repeats, the list is ascending.
  pub ascending-dedup : (txns : List TxnId) → IsSorted txn_cmp txns → Ascending (dedup E txns)
  ascending-dedup txns sorted =
      strictly-ascending (dedup E txns) (IsStrictlySortedBy-dedup txn-total (λ t u. same t u ∙ ties t u) txns sorted)

  -- Put in order and freed of repeats, the list has the members that it had.
  pub same-dedup : (txns sorted : List TxnId) (txn : TxnId) → IsPermutation txns sorted → Contains (dedup E sorted) txn ↔ Contains txns txn
  same-dedup txns sorted txn moved = (
    λ here. Contains-permutation sorted txns txn (IsPermutation-sym txns sorted moved) (Contains-from_dedup E sorted txn here),
    λ here. Contains-dedup same-equivalence (λ t u test. same-eq {t = t} {u = u} (sym (same t u) ∙ test)) sorted txn (Contains-permutation txns sorted txn moved here),
  )
