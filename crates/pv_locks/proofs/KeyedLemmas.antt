-- Lists in the order of transactions, one of each at most: where one stands, and what a change at that place does.
use Rattle.std.proofs.Common.{◌≡◌, ◌⊎◌, ⊎_elim, inl, inr, ℕ, suc, ◌<◌, ◌≤◌, Bool, true, false, cond, not, List, [], ◌∷◌, map, length, get_or, slice_get, set, Option, Some, None, refl, sym, ap, subst, ◌∙◌}
use Rattle.std.specs.Prelude.{All, IsTrue, if◌then◌else◌}
use Rattle.std.specs.List.{Contains, remove}
use Rattle.std.specs.List.Sorted.{IsPartitionedBy}
use Rattle.std.proofs.lemmas.Bool.{false_from_ne_true}
use Rattle.std.proofs.lemmas.List.Elements.{All-head, All-tail, All-weaker}
use Rattle.std.proofs.lemmas.Option.{slice_get_past, slice_get_read}
use Rattle.pv_base.proofs.AssignmentLemmas.{same-eq, same-from-eq, precedes-irrefl, precedes-trans, precedes-other, precedes-other', order-of-two}
use Rattle.pv_base.proofs.ContainsLemmas.{Contains-cases, Contains-nil}
use Rattle.pv_base.proofs.MapLemmas.{Contains-map}
use Rattle.pv_base.specs.Assignment.{is_same_txn, precedes}
use Rattle.pv_base.specs.declared.txn.TxnId.{TxnId}
use Rattle.pv_law_polyvalues.proofs.AscendingLemmas.{All-from_members, ascending-first, ascending-tail}
use Rattle.pv_locks.proofs.PutLemmas.{partitioned-nil, partitioned-cons}
use Rattle.pv_locks.specs.Put.{place, put}
use Rattle.pv_protocol.specs.Keyed.{of_txn, with_one, without, AreInOrder}

-- A transaction that another precedes doesn't precede it.
pub not-before : (t u : TxnId) → IsTrue (precedes t u) → precedes u t ≡ false
not-before t u before = false_from_ne_true (precedes u t) (λ behind. precedes-irrefl t (precedes-trans t u t before behind))

pub not-before-itself : (t : TxnId) → precedes t t ≡ false
not-before-itself t = false_from_ne_true (precedes t t) (precedes-irrefl t)

module _ {X : Type 0} (txn_of : X → TxnId) where
  pub order-tail : (x : X) (xs : List X) → AreInOrder txn_of (x ∷ xs) → AreInOrder txn_of xs
  order-tail x xs up = ascending-tail (txn_of x) (map txn_of xs) up

  pub order-first : (x : X) (xs : List X) → AreInOrder txn_of (x ∷ xs) → All (λ y. IsTrue (precedes (txn_of x) (txn_of y))) xs
  order-first x xs up =
      All-from_members (λ y. IsTrue (precedes (txn_of x) (txn_of y))) xs
      (λ y h. ascending-first (txn_of x) (map txn_of xs) up (txn_of y) (Contains-map txn_of xs y h))

  module _ (txn : TxnId) where
    -- the elements that stand before the transaction's
    abbrev pub before : X → Bool
    before x = precedes (txn_of x) txn

    pub order-parted : (xs : List X) → AreInOrder txn_of xs → IsPartitionedBy before xs
    order-parted [] up = partitioned-nil before
    order-parted (x ∷ xs) up =
        partitioned-cons before x xs
        (All-weaker (λ y. IsTrue (precedes (txn_of x) (txn_of y))) (λ y. before y ≡ true → before x ≡ true)
        (λ y first second. precedes-trans (txn_of x) (txn_of y) txn first second) xs (order-first x xs up))
        (order-parted xs (order-tail x xs up))

    -- How the first element stands to the transaction.
    data Stands (x : X) : Type 0 where
      ahead : before x ≡ true → is_same_txn txn (txn_of x) ≡ false → precedes txn (txn_of x) ≡ false → Stands x
      here : txn ≡ txn_of x → before x ≡ false → is_same_txn txn (txn_of x) ≡ true → Stands x
      behind : before x ≡ false → is_same_txn txn (txn_of x) ≡ false → IsTrue (precedes txn (txn_of x)) → Stands x

    stands : (x : X) → Stands x
    stands x =
        ⊎_elim
        (λ first. ahead first (precedes-other' (txn_of x) txn first) (not-before (txn_of x) txn first))
        (λ rest. ⊎_elim
        (λ (same : txn_of x ≡ txn). here (sym same) (subst (λ t. precedes (txn_of x) t ≡ false) same (not-before-itself (txn_of x))) (same-from-eq {t = txn} {u = txn_of x} (sym same)))
        (λ later. behind (not-before txn (txn_of x) later) (precedes-other txn (txn_of x) later) later)
        rest)
        (order-of-two (txn_of x) txn)

    -- Where the transaction precedes every one, it has nothing.
    none-of : (xs : List X) → All (λ y. IsTrue (precedes txn (txn_of y))) xs → of_txn txn_of txn xs ≡ None
    none-of [] all = refl
    none-of (x ∷ xs) all =
        ap (λ b. cond b (Some x) (of_txn txn_of txn xs)) (precedes-other txn (txn_of x) (All-head (λ y. IsTrue (precedes txn (txn_of y))) x xs all))
        ∙ none-of xs (All-tail (λ y. IsTrue (precedes txn (txn_of y))) x xs all)

    pub none-behind : (x : X) (xs : List X) → AreInOrder txn_of (x ∷ xs) → IsTrue (precedes txn (txn_of x)) → of_txn txn_of txn xs ≡ None
    none-behind x xs up later =
        none-of xs
        (All-weaker (λ y. IsTrue (precedes (txn_of x) (txn_of y))) (λ y. IsTrue (precedes txn (txn_of y)))
        (λ y h. precedes-trans txn (txn_of x) (txn_of y) later h) xs (order-first x xs up))

    none-behind-itself : (x : X) (xs : List X) → AreInOrder txn_of (x ∷ xs) → txn ≡ txn_of x → of_txn txn_of txn xs ≡ None
    none-behind-itself x xs up same =
        none-of xs
        (All-weaker (λ y. IsTrue (precedes (txn_of x) (txn_of y))) (λ y. IsTrue (precedes txn (txn_of y)))
        (λ y h. subst (λ t. IsTrue (precedes t (txn_of y))) (sym same) h) xs (order-first x xs up))

    -- The element, if it is the transaction's.
    abbrev pub if_of : Option X → Option X
    if_of None = None
    if_of (Some x) = if is_same_txn txn (txn_of x) then Some x else None

    -- What the transaction has stands at its place, or nothing of it does.
    pub of-place : (xs : List X) → AreInOrder txn_of xs → of_txn txn_of txn xs ≡ if_of (slice_get xs (place before xs))
    of-place [] up = refl
    of-place (x ∷ xs) up = by (stands x) (of-place xs (order-tail x xs up)) where
      by : Stands x → of_txn txn_of txn xs ≡ if_of (slice_get xs (place before xs))
          → of_txn txn_of txn (x ∷ xs) ≡ if_of (slice_get (x ∷ xs) (place before (x ∷ xs)))
      by (ahead first other less) later =
          ap (λ b. cond b (Some x) (of_txn txn_of txn xs)) other ∙ later
          ∙ sym (ap (λ b. if_of (slice_get (x ∷ xs) (if b then suc (place before xs) else 0))) first)
      by (here same last is) later =
          ap (λ b. cond b (Some x) (of_txn txn_of txn xs)) is
          ∙ sym (ap (λ b. if_of (slice_get (x ∷ xs) (if b then suc (place before xs) else 0))) last ∙ ap (λ b. if b then Some x else None) is)
      by (behind last other less) later =
          ap (λ b. cond b (Some x) (of_txn txn_of txn xs)) other ∙ none-behind x xs up less
          ∙ sym (ap (λ b. if_of (slice_get (x ∷ xs) (if b then suc (place before xs) else 0))) last ∙ ap (λ b. if b then Some x else None) other)

    -- What is looked up at its place is what it has, if it is its own.
    pub found-none : (xs : List X) (n : ℕ) → AreInOrder txn_of xs → n ≡ place before xs → length xs ≤ n → of_txn txn_of txn xs ≡ None
    found-none xs n up at h = of-place xs up ∙ ap (λ i. if_of (slice_get xs i)) (sym at) ∙ ap if_of (slice_get_past xs n h)

    pub found-some : (xs : List X) (n : ℕ) (x : X) (b : Bool) → AreInOrder txn_of xs → n ≡ place before xs → n < length xs → x ≡ get_or xs n x
        → is_same_txn txn (txn_of x) ≡ b → of_txn txn_of txn xs ≡ (if b then Some x else None)
    found-some xs n x b up at within is test =
        of-place xs up ∙ ap (λ i. if_of (slice_get xs i)) (sym at) ∙ ap if_of (slice_get_read xs (length xs) n x refl within is) ∙ ap (λ t. if t then Some x else None) test

    -- What is there of the transaction, behind an element of another.
    pub behind-other : (x : X) (xs : List X) (o : Option X) → is_same_txn txn (txn_of x) ≡ false → of_txn txn_of txn (x ∷ xs) ≡ o → of_txn txn_of txn xs ≡ o
    behind-other x xs o other is = sym (ap (λ b. cond b (Some x) (of_txn txn_of txn xs)) other) ∙ is

    pub not-both : (x : X) (o : Option X) → o ≡ Some x → o ≡ None → ⊥
    not-both x o some none = let wrong : Some x ≡ None = sym some ∙ none in cc

    -- What is put at the place of a transaction that has nothing stands in order.
    pub put-new : (y : X) (xs : List X) → txn ≡ txn_of y → of_txn txn_of txn xs ≡ None → put before y xs ≡ with_one txn_of y xs
    put-new y [] of none = refl
    put-new y (x ∷ xs) of none = by (stands x) (λ other. put-new y xs of (behind-other x xs None other none)) where
      by : Stands x → (is_same_txn txn (txn_of x) ≡ false → put before y xs ≡ with_one txn_of y xs) → put before y (x ∷ xs) ≡ with_one txn_of y (x ∷ xs)
      by (ahead first other less) later =
          ap (λ b. if b then x ∷ put before y xs else y ∷ (x ∷ xs)) first ∙ ap (λ l. x ∷ l) (later other)
          ∙ sym (ap (λ b. if b then y ∷ xs else (if precedes (txn_of y) (txn_of x) then y ∷ (x ∷ xs) else x ∷ with_one txn_of y xs)) (subst (λ t. is_same_txn t (txn_of x) ≡ false) of other)
          ∙ ap (λ b. if b then y ∷ (x ∷ xs) else x ∷ with_one txn_of y xs) (subst (λ t. precedes t (txn_of x) ≡ false) of less))
      by (here same last is) later = absurd (not-both x (of_txn txn_of txn (x ∷ xs)) (ap (λ b. cond b (Some x) (of_txn txn_of txn xs)) is) none)
      by (behind last other less) later =
          ap (λ b. if b then x ∷ put before y xs else y ∷ (x ∷ xs)) last
          ∙ sym (ap (λ b. if b then y ∷ xs else (if precedes (txn_of y) (txn_of x) then y ∷ (x ∷ xs) else x ∷ with_one txn_of y xs)) (subst (λ t. is_same_txn t (txn_of x) ≡ false) of other)
          ∙ ap (λ b. if b then y ∷ (x ∷ xs) else x ∷ with_one txn_of y xs) (subst (λ t. IsTrue (precedes t (txn_of x))) of less))

    -- What is set at the place of a transaction that has something takes its place.
    pub set-same : (y z : X) (xs : List X) → txn ≡ txn_of y → AreInOrder txn_of xs → of_txn txn_of txn xs ≡ Some z → set xs (place before xs) y ≡ with_one txn_of y xs
    set-same y z [] of up some = absurd (not-both z None some refl)
    set-same y z (x ∷ xs) of up some = by (stands x) (λ other. set-same y z xs of (order-tail x xs up) (behind-other x xs (Some z) other some)) where
      by : Stands x → (is_same_txn txn (txn_of x) ≡ false → set xs (place before xs) y ≡ with_one txn_of y xs)
          → set (x ∷ xs) (place before (x ∷ xs)) y ≡ with_one txn_of y (x ∷ xs)
      by (ahead first other less) later =
          ap (λ b. set (x ∷ xs) (if b then suc (place before xs) else 0) y) first ∙ ap (λ l. x ∷ l) (later other)
          ∙ sym (ap (λ b. if b then y ∷ xs else (if precedes (txn_of y) (txn_of x) then y ∷ (x ∷ xs) else x ∷ with_one txn_of y xs)) (subst (λ t. is_same_txn t (txn_of x) ≡ false) of other)
          ∙ ap (λ b. if b then y ∷ (x ∷ xs) else x ∷ with_one txn_of y xs) (subst (λ t. precedes t (txn_of x) ≡ false) of less))
      by (here same last is) later =
          ap (λ b. set (x ∷ xs) (if b then suc (place before xs) else 0) y) last
          ∙ sym (ap (λ b. if b then y ∷ xs else (if precedes (txn_of y) (txn_of x) then y ∷ (x ∷ xs) else x ∷ with_one txn_of y xs)) (subst (λ t. is_same_txn t (txn_of x) ≡ true) of is))
      by (behind last other less) later =
          absurd (not-both z (of_txn txn_of txn xs) (behind-other x xs (Some z) other some) (none-behind x xs up less))

    -- A list in which the transaction has nothing stays as it is when what it has is taken out.
    pub without-none : (xs : List X) → of_txn txn_of txn xs ≡ None → without txn_of txn xs ≡ xs
    without-none [] none = refl
    without-none (x ∷ xs) none = by (is_same_txn txn (txn_of x)) refl (λ other. without-none xs (behind-other x xs None other none)) where
      by : (b : Bool) → is_same_txn txn (txn_of x) ≡ b → (is_same_txn txn (txn_of x) ≡ false → without txn_of txn xs ≡ xs) → without txn_of txn (x ∷ xs) ≡ x ∷ xs
      by true is later = absurd (not-both x (of_txn txn_of txn (x ∷ xs)) (ap (λ b. cond b (Some x) (of_txn txn_of txn xs)) is) none)
      by false other later = ap (λ b. cond (not b) (x ∷ without txn_of txn xs) (without txn_of txn xs)) other ∙ ap (λ l. x ∷ l) (later other)

    -- Without the first, which is the transaction's, the rest stays.
    pub without-first : (x : X) (xs : List X) → AreInOrder txn_of (x ∷ xs) → is_same_txn txn (txn_of x) ≡ true → without txn_of txn (x ∷ xs) ≡ xs
    without-first x xs up is =
        ap (λ b. cond (not b) (x ∷ without txn_of txn xs) (without txn_of txn xs)) is
        ∙ without-none xs (none-behind-itself x xs up (same-eq {t = txn} {u = txn_of x} is))

    -- What is removed at the place of a transaction that has something is what it has.
    pub remove-place : (z : X) (xs : List X) → AreInOrder txn_of xs → of_txn txn_of txn xs ≡ Some z → remove xs (place before xs) ≡ without txn_of txn xs
    remove-place z [] up some = absurd (not-both z None some refl)
    remove-place z (x ∷ xs) up some = by (stands x) (λ other. remove-place z xs (order-tail x xs up) (behind-other x xs (Some z) other some)) where
      by : Stands x → (is_same_txn txn (txn_of x) ≡ false → remove xs (place before xs) ≡ without txn_of txn xs)
          → remove (x ∷ xs) (place before (x ∷ xs)) ≡ without txn_of txn (x ∷ xs)
      by (ahead first other less) later =
          ap (λ b. remove (x ∷ xs) (if b then suc (place before xs) else 0)) first ∙ ap (λ l. x ∷ l) (later other)
          ∙ sym (ap (λ b. cond (not b) (x ∷ without txn_of txn xs) (without txn_of txn xs)) other)
      by (here same last is) later = ap (λ b. remove (x ∷ xs) (if b then suc (place before xs) else 0)) last ∙ sym (without-first x xs up is)
      by (behind last other less) later =
          absurd (not-both z (of_txn txn_of txn xs) (behind-other x xs (Some z) other some) (none-behind x xs up less))

    -- What the transaction has is its own.
    pub of-own : (z : X) (xs : List X) → of_txn txn_of txn xs ≡ Some z → is_same_txn txn (txn_of z) ≡ true
    of-own z [] some = absurd (not-both z None some refl)
    of-own z (x ∷ xs) some = by (is_same_txn txn (txn_of x)) refl (λ other. of-own z xs (behind-other x xs (Some z) other some)) where
      by : (b : Bool) → is_same_txn txn (txn_of x) ≡ b → (is_same_txn txn (txn_of x) ≡ false → is_same_txn txn (txn_of z) ≡ true) → is_same_txn txn (txn_of z) ≡ true
      by true is later =
          let one : Some x ≡ Some z = sym (ap (λ b. cond b (Some x) (of_txn txn_of txn xs)) is) ∙ some in
          let same : x ≡ z = cc in
          subst (λ y. is_same_txn txn (txn_of y) ≡ true) same is
      by false other later = later other

  -- What stands in order is what its transaction has.

  itself-by : (x y : X) (ys : List X) → AreInOrder txn_of (y ∷ ys) → (Contains ys x → of_txn txn_of (txn_of x) ys ≡ Some x) → (y ≡ x) ⊎ Contains ys x
      → of_txn txn_of (txn_of x) (y ∷ ys) ≡ Some x
  itself-by x y ys up later (inl same) =
      ap (λ b. cond b (Some y) (of_txn txn_of (txn_of x) ys)) (same-from-eq {t = txn_of x} {u = txn_of y} (ap txn_of (sym same))) ∙ ap Some same
  itself-by x y ys up later (inr h) =
      let first = ascending-first (txn_of y) (map txn_of ys) up (txn_of x) (Contains-map txn_of ys x h) in
      ap (λ b. cond b (Some y) (of_txn txn_of (txn_of x) ys)) (precedes-other' (txn_of y) (txn_of x) first) ∙ later h

  found : (x : X) (xs : List X) → AreInOrder txn_of xs → Contains xs x → of_txn txn_of (txn_of x) xs ≡ Some x
  found x [] up h = absurd (Contains-nil x h)
  found x (y ∷ ys) up h = itself-by x y ys up (found x ys (order-tail y ys up)) (Contains-cases y ys x h)

  pub of-itself : (xs : List X) → AreInOrder txn_of xs → All (λ x. of_txn txn_of (txn_of x) xs ≡ Some x) xs
  of-itself xs up = All-from_members (λ x. of_txn txn_of (txn_of x) xs ≡ Some x) xs (λ x h. found x xs up h)
