-- Lists of things that belong to transactions: what is found in them, and what becomes of them where one is put in or taken out by its place.
use Rattle.std.proofs.Common.{◌≡◌, ◌⊎◌, ⊎_elim, ℕ, zero, suc, ◌<◌, Bool, true, false, ◌&&◌, Some, None, Option, inl, inr, List, [], ◌∷◌, ◌++◌, map, length, get_or, set, IsTrue, refl, sym, ap, subst, ◌∙◌, arith}
use Rattle.std.specs.Prelude.{not, if◌then◌else◌, All}
use Rattle.std.specs.List.{find, remove, Contains}
use Rattle.std.proofs.lemmas.Bool.{false_from_ne_true}
use Rattle.std.proofs.Math.Seq.{map-set_same}
use Rattle.std.proofs.lemmas.List.Elements.{All-contains_itself}
use Rattle.pv_base.proofs.AssignmentLemmas.{same-from-eq, same-eq, precedes-irrefl, precedes-trans, precedes-other, precedes-other'}
use Rattle.pv_base.proofs.ContainsLemmas.{Contains-first, Contains-behind, Contains-nil, Contains-cases}
use Rattle.pv_base.proofs.MapLemmas.{Contains-map}
use Rattle.pv_base.specs.Assignment.{AreAscending, is_same_txn, precedes}
use Rattle.pv_base.specs.declared.txn.TxnId.{TxnId}
use Rattle.pv_law_polyvalues.proofs.AscendingLemmas.{ascending-cons, ascending-first, ascending-tail}
use Rattle.pv_protocol.specs.Keyed.{of_txn, with_one, without, AreInOrder}

-- What precedes isn't preceded by the same.
precedes-not : (t u : TxnId) → IsTrue (precedes t u) → precedes u t ≡ false
precedes-not t u before = false_from_ne_true (precedes u t) (λ behind. precedes-irrefl t (precedes-trans t u t before behind))

module _ {X : Type 0} (txn_of : X → TxnId) where
  -- Each that stands behind belongs to a later transaction.
  pub behind : (x : X) (xs : List X) → AreInOrder txn_of (x ∷ xs) → (i : ℕ) (d : X) → i < length xs → IsTrue (precedes (txn_of x) (txn_of (get_or xs i d)))
  behind x xs up i d within =
      ascending-first (txn_of x) (map txn_of xs) up (txn_of (get_or xs i d)) (Contains-map txn_of xs (get_or xs i d) (All-contains_itself xs i d within))

  pub order-tail : (x : X) (xs : List X) → AreInOrder txn_of (x ∷ xs) → AreInOrder txn_of xs
  order-tail x xs up = ascending-tail (txn_of x) (map txn_of xs) up

  -- What stands at a place is found for its transaction.
  pub found-at : (xs : List X) → AreInOrder txn_of xs → (i : ℕ) (d : X) → i < length xs → (txn : TxnId) → txn ≡ txn_of (get_or xs i d)
      → of_txn txn_of txn xs ≡ Some (get_or xs i d)
  found-at [] up i d within txn is = absurd (omega (arith, within))
  found-at (x ∷ xs) up zero d within txn is = ap (λ (b : Bool). if b then Some x else of_txn txn_of txn xs) (same-from-eq is)
  found-at (x ∷ xs) up (suc i) d within txn is =
      let within' : i < length xs = omega (arith, within) in
      let other : is_same_txn txn (txn_of x) ≡ false =
      ap (λ (t : TxnId). is_same_txn t (txn_of x)) is ∙ precedes-other' (txn_of x) (txn_of (get_or xs i d)) (behind x xs up i d within') in
      ap (λ (b : Bool). if b then Some x else of_txn txn_of txn xs) other ∙ found-at xs (order-tail x xs up) i d within' txn is

  -- Nothing is found for a transaction to which nothing belongs.
  pub found-none : (xs : List X) (txn : TxnId) → All (λ x. is_same_txn txn (txn_of x) ≡ false) xs → of_txn txn_of txn xs ≡ None
  found-none [] txn none = refl
  found-none (x ∷ xs) txn none =
      ap (λ (b : Bool). if b then Some x else of_txn txn_of txn xs) (none 0 x (omega arith))
      ∙ found-none xs txn (λ i d within. none (suc i) d (omega (arith, within)))

  -- What is put in the place of what belonged to the same transaction.
  pub with-at : (xs : List X) → AreInOrder txn_of xs → (i : ℕ) (d : X) → i < length xs → (x : X) → txn_of x ≡ txn_of (get_or xs i d)
      → set xs i x ≡ with_one txn_of x xs
  with-at [] up i d within x is = absurd (omega (arith, within))
  with-at (first ∷ rest) up zero d within x is =
      sym (ap (λ (b : Bool). if b then x ∷ rest else (if precedes (txn_of x) (txn_of first) then x ∷ (first ∷ rest) else first ∷ with_one txn_of x rest)) (same-from-eq is))
  with-at (first ∷ rest) up (suc i) d within x is =
      let within' : i < length rest = omega (arith, within) in
      let before : IsTrue (precedes (txn_of first) (txn_of x)) = subst (λ (t : TxnId). IsTrue (precedes (txn_of first) t)) (sym is) (behind first rest up i d within') in
      ap (λ (list : List X). first ∷ list) (with-at rest (order-tail first rest up) i d within' x is)
      ∙ sym (ap (λ (b : Bool). if b then x ∷ rest else (if precedes (txn_of x) (txn_of first) then x ∷ (first ∷ rest) else first ∷ with_one txn_of x rest)) (precedes-other' (txn_of first) (txn_of x) before)
      ∙ ap (λ (b : Bool). if b then x ∷ (first ∷ rest) else first ∷ with_one txn_of x rest) (precedes-not (txn_of first) (txn_of x) before))

  -- The order stays where what is put in belongs to the same transaction.
  pub order-set : (xs : List X) → AreInOrder txn_of xs → (i : ℕ) (d : X) → (x : X) → txn_of x ≡ txn_of (get_or xs i d) → AreInOrder txn_of (set xs i x)
  order-set xs up i d x is = subst AreAscending (sym (map-set_same txn_of xs i x d is)) up

  -- What is put in at the end belongs to the last transaction.
  pub with-end : (xs : List X) (x : X) → All (λ y. IsTrue (precedes (txn_of y) (txn_of x))) xs → xs ++ x ∷ [] ≡ with_one txn_of x xs
  with-end [] x before = refl
  with-end (first ∷ rest) x before =
      ap (λ (list : List X). first ∷ list) (with-end rest x (λ i d within. before (suc i) d (omega (arith, within))))
      ∙ sym (ap (λ (b : Bool). if b then x ∷ rest else (if precedes (txn_of x) (txn_of first) then x ∷ (first ∷ rest) else first ∷ with_one txn_of x rest)) (precedes-other' (txn_of first) (txn_of x) (before 0 x (omega arith)))
      ∙ ap (λ (b : Bool). if b then x ∷ (first ∷ rest) else first ∷ with_one txn_of x rest) (precedes-not (txn_of first) (txn_of x) (before 0 x (omega arith))))

  listed-end : (xs : List X) (x : X) (t : TxnId) → Contains (map txn_of (xs ++ x ∷ [])) t → (t ≡ txn_of x) ⊎ Contains (map txn_of xs) t
  listed-end [] x t h = ⊎_elim (λ same. inl (sym same)) (λ later. absurd (Contains-nil t later)) (Contains-cases (txn_of x) [] t h)
  listed-end (y ∷ ys) x t h =
      ⊎_elim (λ same. inr (subst (Contains (txn_of y ∷ map txn_of ys)) same (Contains-first (txn_of y) (map txn_of ys))))
      (λ later. ⊎_elim (λ is. inl is) (λ there. inr (Contains-behind (txn_of y) (map txn_of ys) t there)) (listed-end ys x t later))
      (Contains-cases (txn_of y) (map txn_of (ys ++ x ∷ [])) t h)

  -- The order stays where what is put in at the end belongs to the last transaction.
  pub order-end : (xs : List X) → AreInOrder txn_of xs → (x : X) → All (λ y. IsTrue (precedes (txn_of y) (txn_of x))) xs → AreInOrder txn_of (xs ++ x ∷ [])
  order-end [] up x before = ascending-cons (txn_of x) [] (λ u h. absurd (Contains-nil u h)) up
  order-end (y ∷ ys) up x before =
      ascending-cons (txn_of y) (map txn_of (ys ++ x ∷ []))
      (λ u h. ⊎_elim (λ is. subst (λ (t : TxnId). IsTrue (precedes (txn_of y) t)) (sym is) (before 0 x (omega arith)))
      (λ there. ascending-first (txn_of y) (map txn_of ys) up u there) (listed-end ys x u h))
      (order-end ys (order-tail y ys up) x (λ i d within. before (suc i) d (omega (arith, within))))

  -- Where nothing belongs to the transaction, taking out what does changes nothing.
  pub without-none : (xs : List X) (txn : TxnId) → All (λ x. is_same_txn txn (txn_of x) ≡ false) xs → without txn_of txn xs ≡ xs
  without-none [] txn none = refl
  without-none (x ∷ xs) txn none =
      ap (λ (b : Bool). if not b then x ∷ without txn_of txn xs else without txn_of txn xs) (none 0 x (omega arith))
      ∙ ap (λ (list : List X). x ∷ list) (without-none xs txn (λ i d within. none (suc i) d (omega (arith, within))))

  found-cases : (b : Bool) (x : X) (found : Option X) → (if b then Some x else found) ≡ None → (b ≡ false) × (found ≡ None)
  found-cases true x found is = absurd (let no : ⊥ = cc in no)
  found-cases false x found is = (refl, is)

  -- Nothing belongs to a transaction for which nothing is found.
  pub none-found : (xs : List X) (txn : TxnId) → of_txn txn_of txn xs ≡ None → All (λ x. is_same_txn txn (txn_of x) ≡ false) xs
  none-found [] txn none = λ i d within. absurd (omega (arith, within))
  none-found (x ∷ xs) txn none =
      let parts = found-cases (is_same_txn txn (txn_of x)) x (of_txn txn_of txn xs) none in
      λ i d within. at i d within parts.0 (none-found xs txn parts.1) where
        at : (i : ℕ) (d : X) → i < length (x ∷ xs) → is_same_txn txn (txn_of x) ≡ false → All (λ y. is_same_txn txn (txn_of y) ≡ false) xs
            → is_same_txn txn (txn_of (get_or (x ∷ xs) i d)) ≡ false
        at zero d within here rest = here
        at (suc i) d within here rest = rest i d (omega (arith, within))

  -- What is taken out by its place.
  pub without-at : (xs : List X) → AreInOrder txn_of xs → (i : ℕ) (d : X) → i < length xs → (txn : TxnId) → txn ≡ txn_of (get_or xs i d)
      → remove xs i ≡ without txn_of txn xs
  without-at [] up i d within txn is = absurd (omega (arith, within))
  without-at (x ∷ xs) up zero d within txn is =
      sym (ap (λ (b : Bool). if not b then x ∷ without txn_of txn xs else without txn_of txn xs) (same-from-eq is)
      ∙ without-none xs txn (λ j e inside. subst (λ (t : TxnId). is_same_txn t (txn_of (get_or xs j e)) ≡ false) (sym is) (precedes-other (txn_of x) (txn_of (get_or xs j e)) (behind x xs up j e inside))))
  without-at (x ∷ xs) up (suc i) d within txn is =
      let within' : i < length xs = omega (arith, within) in
      let other : is_same_txn txn (txn_of x) ≡ false =
      ap (λ (t : TxnId). is_same_txn t (txn_of x)) is ∙ precedes-other' (txn_of x) (txn_of (get_or xs i d)) (behind x xs up i d within') in
      ap (λ (list : List X). x ∷ list) (without-at xs (order-tail x xs up) i d within' txn is)
      ∙ sym (ap (λ (b : Bool). if not b then x ∷ without txn_of txn xs else without txn_of txn xs) other)

  -- what is found, where it passes the test
  abbrev pub only : (X → Bool) → Option X → Option X
  only p None = None
  only p (Some x) = if p x then Some x else None

  nothing-both : (p : X → Bool) (xs : List X) (txn : TxnId) → All (λ x. is_same_txn txn (txn_of x) ≡ false) xs
      → find (λ x. is_same_txn txn (txn_of x) && p x) xs ≡ None
  nothing-both p [] txn none = refl
  nothing-both p (x ∷ xs) txn none =
      ap (λ (b : Bool). if b && p x then Some x else find (λ y. is_same_txn txn (txn_of y) && p y) xs) (none 0 x (omega arith))
      ∙ nothing-both p xs txn (λ i d within. none (suc i) d (omega (arith, within)))

  both-by : (p : X → Bool) (x : X) (a : Bool) (both found : Option X) → (a ≡ true → both ≡ None) → both ≡ only p found
      → (if a && p x then Some x else both) ≡ only p (if a then Some x else found)
  both-by p x true both found none rest = ap (λ (other : Option X). if p x then Some x else other) (none refl)
  both-by p x false both found none rest = rest

  -- What is found by the transaction and a test is what is found by the transaction, where it passes the test.
  pub found-both : (p : X → Bool) (xs : List X) → AreInOrder txn_of xs → (txn : TxnId)
      → find (λ x. is_same_txn txn (txn_of x) && p x) xs ≡ only p (of_txn txn_of txn xs)
  found-both p [] up txn = refl
  found-both p (x ∷ xs) up txn =
      both-by p x (is_same_txn txn (txn_of x)) (find (λ y. is_same_txn txn (txn_of y) && p y) xs) (of_txn txn_of txn xs)
      (λ here. nothing-both p xs txn (λ i d within.
      ap (λ (t : TxnId). is_same_txn t (txn_of (get_or xs i d))) (same-eq {t = txn} {u = txn_of x} here)
      ∙ precedes-other (txn_of x) (txn_of (get_or xs i d)) (behind x xs up i d within)))
      (found-both p xs (order-tail x xs up) txn)
