-- What is found in lists of things that belong to transactions, and that they stay in order.
use Rattle.std.proofs.Common.{◌≡◌, Bool, true, false, Some, None, Option, List, [], ◌∷◌, refl, sym, ap, ◌∙◌}
use Rattle.std.specs.Prelude.{not, if◌then◌else◌}
use Rattle.std.specs.List.{find}
use Rattle.std.proofs.lemmas.Bool.{false≢true}
use Rattle.pv_base.proofs.AssignmentLemmas.{same-eq, same-from-eq}
use Rattle.pv_base.specs.declared.txn.TxnId.{TxnId}
use Rattle.pv_base.specs.Assignment.{is_same_txn, precedes}
use Rattle.pv_law_step.proofs.StepCases.{if_case}
use Rattle.pv_protocol.specs.Keyed.{of_txn, with_one, without}

module _ {X : Type 0} (txn_of : X → TxnId) where
  -- what is found by these tests
  abbrev pub found-or : Bool → X → Option X → Option X
  found-or b x rest = if b then Some x else rest

  -- one test that implies another
  replaced : (t : TxnId) (x first : X) (rest : List X) → is_same_txn (txn_of x) (txn_of first) ≡ true
      → found-or (is_same_txn t (txn_of x)) x (of_txn txn_of t rest) ≡ found-or (is_same_txn t (txn_of x)) x (found-or (is_same_txn t (txn_of first)) first (of_txn txn_of t rest))
  replaced t x first rest same = by (is_same_txn t (txn_of x)) refl where
    by : (b : Bool) → is_same_txn t (txn_of x) ≡ b
        → found-or b x (of_txn txn_of t rest) ≡ found-or b x (found-or (is_same_txn t (txn_of first)) first (of_txn txn_of t rest))
    by true is = refl
    by false is =
        let other : is_same_txn t (txn_of first) ≡ false = ap (is_same_txn t) (sym (same-eq {t = txn_of x} {u = txn_of first} same)) ∙ is in
        sym (ap (λ b. found-or b first (of_txn txn_of t rest)) other)

  swapped : (t : TxnId) (x first : X) (rest : Option X) → is_same_txn (txn_of x) (txn_of first) ≡ false
      → found-or (is_same_txn t (txn_of first)) first (found-or (is_same_txn t (txn_of x)) x rest)
      ≡ found-or (is_same_txn t (txn_of x)) x (found-or (is_same_txn t (txn_of first)) first rest)
  swapped t x first rest apart = by (is_same_txn t (txn_of x)) (is_same_txn t (txn_of first)) refl refl where
    by : (b c : Bool) → is_same_txn t (txn_of x) ≡ b → is_same_txn t (txn_of first) ≡ c → found-or c first (found-or b x rest) ≡ found-or b x (found-or c first rest)
    by true true is at = absurd (false≢true (sym apart ∙ same-from-eq {t = txn_of x} {u = txn_of first} (sym (same-eq {t = t} {u = txn_of x} is) ∙ same-eq {t = t} {u = txn_of first} at)))
    by true false is at = refl
    by false true is at = refl
    by false false is at = refl

  -- What is put in is found for its transaction, and for others what was there.
  pub of-with : (t : TxnId) (x : X) (xs : List X) → of_txn txn_of t (with_one txn_of x xs) ≡ (if is_same_txn t (txn_of x) then Some x else of_txn txn_of t xs)
  of-with t x [] = refl
  of-with t x (first ∷ rest) =
      if_case (λ list. of_txn txn_of t list ≡ (if is_same_txn t (txn_of x) then Some x else of_txn txn_of t (first ∷ rest))) (is_same_txn (txn_of x) (txn_of first))
      (λ same. replaced t x first rest same)
      (λ apart. if_case (λ list. of_txn txn_of t list ≡ (if is_same_txn t (txn_of x) then Some x else of_txn txn_of t (first ∷ rest))) (precedes (txn_of x) (txn_of first))
      (λ before. refl)
      (λ behind. ap (found-or (is_same_txn t (txn_of first)) first) (of-with t x rest) ∙ swapped t x first (of_txn txn_of t rest) apart))

  none-either : (t : TxnId) (b : Bool) → of_txn txn_of t [] ≡ (if b then None else of_txn txn_of t [])
  none-either t true = refl
  none-either t false = refl

  passed : (b : Bool) (p : X → Bool) (x : X) (xs : List X) → find p (if b then x ∷ xs else xs) ≡ (if b then find p (x ∷ xs) else find p xs)
  passed true p x xs = refl
  passed false p x xs = refl

  -- What is taken out isn't found, and the rest is as before.
  pub of-without : (t u : TxnId) (xs : List X) → of_txn txn_of t (without txn_of u xs) ≡ (if is_same_txn t u then None else of_txn txn_of t xs)
  of-without t u [] = none-either t (is_same_txn t u)
  of-without t u (x ∷ xs) =
      passed (not (is_same_txn u (txn_of x))) (λ y. is_same_txn t (txn_of y)) x (without txn_of u xs)
      ∙ by (is_same_txn u (txn_of x)) (is_same_txn t u) refl refl (of-without t u xs) where
        by : (b c : Bool) → is_same_txn u (txn_of x) ≡ b → is_same_txn t u ≡ c → of_txn txn_of t (without txn_of u xs) ≡ (if c then None else of_txn txn_of t xs)
            → (if not b then of_txn txn_of t (x ∷ without txn_of u xs) else of_txn txn_of t (without txn_of u xs)) ≡ (if c then None else of_txn txn_of t (x ∷ xs))
        by true true is same rest = rest
        by true false is other rest =
            let apart : is_same_txn t (txn_of x) ≡ false = ap (is_same_txn t) (sym (same-eq {t = u} {u = txn_of x} is)) ∙ other in
            rest ∙ sym (ap (λ b. found-or b x (of_txn txn_of t xs)) apart)
        by false true is same rest =
            let apart : is_same_txn t (txn_of x) ≡ false = ap (λ v. is_same_txn v (txn_of x)) (same-eq {t = t} {u = u} same) ∙ is in
            ap (λ b. found-or b x (of_txn txn_of t (without txn_of u xs))) apart ∙ rest
        by false false is other rest = ap (found-or (is_same_txn t (txn_of x)) x) rest
