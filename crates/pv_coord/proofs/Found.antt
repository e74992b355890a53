-- A binary search by transactions ends at the work on the transaction, or finds that there is none.
use Rattle.std.proofs.Common.{◌≡◌, ⊎_elim, ℕ, ◌+◌, false, None, Result, Ok, Err, List, length, get_or, IsTrue, Less, Equal, Greater, is_lt, sym, ap, ◌∙◌, arith}
use Rattle.std.specs.Prelude.{MatchOption}
use Rattle.std.specs.List.Sorted.{IsSearchInRange, IsBinarySearchResult, IsSortedBy}
use Rattle.std.specs.Ordering.{is_eq}
use Rattle.std.specs.Result.{result_ok}
use Rattle.std.proofs.lemmas.Bool.{false_from_ne_true, cases_lt}
use Rattle.std.proofs.Math.ListN.{get_or-map}
use Rattle.std.proofs.lemmas.List.{length-map}
use Rattle.std.proofs.lemmas.List.Sorted.{searchable_from_sorted}
use Rattle.pv_base.proofs.AssignmentLemmas.{same-eq, same-sym, precedes-irrefl, precedes-trans}
use Rattle.pv_base.specs.Assignment.{is_same_txn, precedes, txn_cmp}
use Rattle.pv_base.specs.declared.txn.TxnId.{TxnId}
use Rattle.pv_cases.proofs.TxnTests.{txn-total, ties}
use Rattle.pv_coord.proofs.KeyedLemmas.{found-none}
use Rattle.pv_coord.specs.Place.{IsPlace}
use Rattle.pv_coord.specs.Work.{Work, txn_of}
use Rattle.pv_protocol.specs.Keyed.{of_txn, AreInOrder}

-- Transactions that compare equal are the same.
equal-same : (t u : TxnId) → txn_cmp t u ≡ Equal → t ≡ u
equal-same t u is = same-eq {t = t} {u = u} (ties t u ∙ ap is_eq is)

-- What doesn't compare equal isn't the same.
less-other : (t u : TxnId) → txn_cmp t u ≡ Less → is_same_txn u t ≡ false
less-other t u is = same-sym u t ∙ ties t u ∙ ap is_eq is

greater-other : (t u : TxnId) → txn_cmp t u ≡ Greater → is_same_txn u t ≡ false
greater-other t u is = same-sym u t ∙ ties t u ∙ ap is_eq is

module _ (works : List Work) (up : AreInOrder txn_of works) (txn : TxnId) where
  sorted : IsSortedBy (λ a b. is_lt (txn_cmp (txn_of a) (txn_of b))) works
  sorted = λ k d low within.
      let before : IsTrue (precedes (txn_of (get_or works k d)) (txn_of (get_or works (k + 1) d))) =
      rw (sym (get_or-map txn_of works k d), sym (get_or-map txn_of works (k + 1) d))
      (up k (k + 1) (txn_of d) (omega arith) (omega (arith, within, length-map works txn_of))) in
      false_from_ne_true (is_lt (txn_cmp (txn_of (get_or works (k + 1) d)) (txn_of (get_or works k d))))
      (λ back. precedes-irrefl (txn_of (get_or works k d)) (precedes-trans (txn_of (get_or works k d)) (txn_of (get_or works (k + 1) d)) (txn_of (get_or works k d)) before back))

  pub searched : (r : Result ℕ ℕ) → IsSearchInRange r (length works) → IsBinarySearchResult (λ y. txn_cmp (txn_of y) txn) works r
      → MatchOption (result_ok r) (of_txn txn_of txn works ≡ None) (IsPlace works txn)
  searched (Ok at) within equal = record { within = within; same = λ d. equal-same (txn_of (get_or works at d)) txn (equal d) }
  searched (Err at) within parted =
      let halves = parted (searchable_from_sorted txn-total txn_of works txn sorted) in
      found-none txn_of works txn (λ i d inside. ⊎_elim
      (λ below. less-other (txn_of (get_or works i d)) txn (halves.0 i d (omega arith) below))
      (λ above. greater-other (txn_of (get_or works i d)) txn (halves.1 i d above inside))
      (cases_lt i at))
