-- The index of the grants by item follows the grants.
use Rattle.std.proofs.Common.{◌≡◌, ◌⊎◌, ⊎_elim, inl, inr, ◌+◌, Bool, true, false, cond, not, List, [], ◌∷◌, ◌++◌, length, Some, None, Ordering, Less, Equal, Greater, nat_cmp, refl, sym, ap, ◌∙◌, arith}
use Rattle.std.specs.Prelude.{All, filter, if◌then◌else◌, ◌+◌}
use Rattle.std.specs.Cmp.{IsStrictWeakOrder, IsTotalOrder, nat_cmp_total, on_total, then_total}
use Rattle.std.specs.Ordering.{ordering_then, ordering_reverse, is_lt}
use Rattle.std.proofs.lemmas.List.Elements.{All-head, All-tail}
use Rattle.std.proofs.lemmas.List.Sorted.{ranks_by}
use Rattle.std.proofs.lemmas.List.Sums.{sum_by-cons}
use Rattle.pv_base.proofs.AssignmentLemmas.{same-eq, apart-from-test, same-sym, order-of-two}
use Rattle.pv_base.proofs.OrderLemmas.{pairs-nil}
use Rattle.pv_base.specs.Assignment.{is_same_txn, precedes, txn_cmp}
use Rattle.pv_base.specs.Want.{Want}
use Rattle.pv_base.specs.declared.txn.TxnId.{TxnId}
use Rattle.pv_locks.proofs.KeyedLemmas.{order-tail, behind-other, none-behind, not-both, without-first}
use Rattle.pv_locks.proofs.PutLemmas.{in-place-put, put-put, filter-put, length-put}
use Rattle.pv_locks.specs.Holders.{comes_before, AreInPlace, with_holder, holder_by, with_holders, holders_of}
use Rattle.pv_locks.specs.Planned.{wants_held}
use Rattle.pv_locks.specs.declared.holders.Holder.{Holder}
use Rattle.pv_protocol.specs.Keyed.{of_txn, with_one, without, AreInOrder}
use Rattle.pv_protocol.specs.State.{Grant}
use Rattle.pv_protocol.specs.Tick.{older_grants}

-- The order of holders.

holder-total : IsTotalOrder (λ (h other : Holder). ordering_then (nat_cmp h.item.0 other.item.0) (txn_cmp h.txn other.txn))
holder-total =
    then_total (on_total (λ (h : Holder). h.item.0) nat_cmp_total)
    (then_total (on_total (λ (h : Holder). h.txn.site.0) nat_cmp_total)
    (then_total (on_total (λ (h : Holder). h.txn.epoch) nat_cmp_total) (on_total (λ (h : Holder). h.txn.number) nat_cmp_total)))

pub holder-order : IsStrictWeakOrder comes_before
holder-order = ranks_by holder-total (λ h. h)

apart-by : (o : Ordering) (h other : Holder) → nat_cmp h.item.0 other.item.0 ≡ o → is_same_txn h.txn other.txn ≡ false
    → (comes_before h other ≡ true) ⊎ (comes_before other h ≡ true)
apart-by Less h other is apart = inl (ap (λ o. is_lt (ordering_then o (txn_cmp h.txn other.txn))) is)
apart-by Equal h other is apart =
    let back : nat_cmp other.item.0 h.item.0 ≡ Equal = nat_cmp_total.antisymm other.item.0 h.item.0 ∙ ap ordering_reverse is in
    ⊎_elim
    (λ before. inl (ap (λ o. is_lt (ordering_then o (txn_cmp h.txn other.txn))) is ∙ before))
    (λ rest. ⊎_elim
    (λ same. absurd (apart-from-test {t = h.txn} {u = other.txn} apart same))
    (λ behind. inr (ap (λ o. is_lt (ordering_then o (txn_cmp other.txn h.txn))) back ∙ behind))
    rest)
    (order-of-two h.txn other.txn)
apart-by Greater h other is apart =
    inr (ap (λ o. is_lt (ordering_then o (txn_cmp other.txn h.txn))) (nat_cmp_total.antisymm other.item.0 h.item.0 ∙ ap ordering_reverse is))

-- Holders of two transactions are added in either order.
add-add : (h other : Holder) (holders : List Holder) → is_same_txn h.txn other.txn ≡ false
    → with_holder h (with_holder other holders) ≡ with_holder other (with_holder h holders)
add-add h other holders apart =
    ⊎_elim
    (λ less. put-put comes_before holder-order h other holders less)
    (λ less. sym (put-put comes_before holder-order other h holders less))
    (apart-by (nat_cmp h.item.0 other.item.0) h other refl apart)

add-through : (h : Holder) (txn : TxnId) (wants : List Want) (holders : List Holder) → is_same_txn h.txn txn ≡ false
    → with_holder h (with_holders txn wants holders) ≡ with_holders txn wants (with_holder h holders)
add-through h txn [] holders apart = refl
add-through h txn (want ∷ wants) holders apart =
    add-add h (holder_by txn want) (with_holders txn wants holders) apart
    ∙ ap (with_holder (holder_by txn want)) (add-through h txn wants holders apart)

swap : (txn other : TxnId) (wants others : List Want) (holders : List Holder) → is_same_txn txn other ≡ false
    → with_holders txn wants (with_holders other others holders) ≡ with_holders other others (with_holders txn wants holders)
swap txn other [] others holders apart = refl
swap txn other (want ∷ wants) others holders apart =
    ap (with_holder (holder_by txn want)) (swap txn other wants others holders apart)
    ∙ add-through (holder_by txn want) other others (with_holders txn wants holders) apart

-- The index stands in its order.

pub with-in-place : (txn : TxnId) (wants : List Want) (holders : List Holder) → AreInPlace holders → AreInPlace (with_holders txn wants holders)
with-in-place txn [] holders up = up
with-in-place txn (want ∷ wants) holders up =
    in-place-put comes_before holder-order (holder_by txn want) (with_holders txn wants holders) (with-in-place txn wants holders up)

pub index-in-place : (grants : List Grant) → AreInPlace (holders_of grants)
index-in-place [] = pairs-nil (λ (h later : Holder). comes_before later h ≡ false)
index-in-place (grant ∷ grants) = with-in-place grant.txn grant.wants (holders_of grants) (index-in-place grants)

-- It has as many holders as there are wants.

length-with : (txn : TxnId) (wants : List Want) (holders : List Holder) → length (with_holders txn wants holders) ≡ length wants + length holders
length-with txn [] holders = omega arith
length-with txn (want ∷ wants) holders =
    omega (arith, length-put (λ other. comes_before other (holder_by txn want)) (holder_by txn want) (with_holders txn wants holders), length-with txn wants holders)

pub length-index : (grants : List Grant) → length (holders_of grants) ≡ wants_held grants
length-index [] = refl
length-index (grant ∷ grants) =
    omega (arith, length-with grant.txn grant.wants (holders_of grants), length-index grants, sum_by-cons (λ (g : Grant). length g.wants) grant grants)

-- From the back on, one want after another.
pub with-last : (txn : TxnId) (wants : List Want) (want : Want) (holders : List Holder)
    → with_holders txn (wants ++ want ∷ []) holders ≡ with_holders txn wants (with_holder (holder_by txn want) holders)
with-last txn [] want holders = refl
with-last txn (first ∷ wants) want holders = ap (with_holder (holder_by txn first)) (with-last txn wants want holders)

-- A new grant.

not-first : (grant : Grant) (x : Grant) (grants : List Grant) → of_txn (λ (g : Grant). g.txn) grant.txn (x ∷ grants) ≡ None
    → (is_same_txn grant.txn x.txn ≡ false) × (of_txn (λ (g : Grant). g.txn) grant.txn grants ≡ None)
not-first grant x grants none = by (is_same_txn grant.txn x.txn) refl where
  by : (b : Bool) → is_same_txn grant.txn x.txn ≡ b → (is_same_txn grant.txn x.txn ≡ false) × (of_txn (λ (g : Grant). g.txn) grant.txn grants ≡ None)
  by true is =
      let wrong : Some x ≡ None = sym (ap (λ b. cond b (Some x) (of_txn (λ (g : Grant). g.txn) grant.txn grants)) is) ∙ none in
      absurd (let no_way : ⊥ = cc in no_way)
  by false other = (other, sym (ap (λ b. cond b (Some x) (of_txn (λ (g : Grant). g.txn) grant.txn grants)) other) ∙ none)

pub index-with_one : (grant : Grant) (grants : List Grant) → of_txn (λ (g : Grant). g.txn) grant.txn grants ≡ None
    → holders_of (with_one (λ (g : Grant). g.txn) grant grants) ≡ with_holders grant.txn grant.wants (holders_of grants)
index-with_one grant [] none = refl
index-with_one grant (x ∷ grants) none =
    let rest = not-first grant x grants none in
    ap (λ b. holders_of (if b then grant ∷ grants else (if precedes grant.txn x.txn then grant ∷ (x ∷ grants) else x ∷ with_one (λ (g : Grant). g.txn) grant grants))) rest.0
    ∙ by (precedes grant.txn x.txn) rest.0 (index-with_one grant grants rest.1)
  where
    by : (b : Bool) → is_same_txn grant.txn x.txn ≡ false
        → holders_of (with_one (λ (g : Grant). g.txn) grant grants) ≡ with_holders grant.txn grant.wants (holders_of grants)
        → holders_of (if b then grant ∷ (x ∷ grants) else x ∷ with_one (λ (g : Grant). g.txn) grant grants) ≡ with_holders grant.txn grant.wants (holders_of (x ∷ grants))
    by true other later = refl
    by false other later =
        ap (with_holders x.txn x.wants) later ∙ sym (swap grant.txn x.txn grant.wants x.wants (holders_of grants) other)

-- A grant that ends.
pub index-without : (txn : TxnId) (grant : Grant) (grants : List Grant) → AreInOrder (λ (g : Grant). g.txn) grants
    → of_txn (λ (g : Grant). g.txn) txn grants ≡ Some grant
    → holders_of grants ≡ with_holders txn grant.wants (holders_of (without (λ (g : Grant). g.txn) txn grants))
index-without txn grant [] up some = absurd (let no_way : ⊥ = cc in no_way)
index-without txn grant (x ∷ grants) up some =
    by (is_same_txn txn x.txn) refl (λ other. index-without txn grant grants (order-tail (λ (g : Grant). g.txn) x grants up)
    (sym (ap (λ b. cond b (Some x) (of_txn (λ (g : Grant). g.txn) txn grants)) other) ∙ some))
  where
    by : (b : Bool) → is_same_txn txn x.txn ≡ b
        → (is_same_txn txn x.txn ≡ false → holders_of grants ≡ with_holders txn grant.wants (holders_of (without (λ (g : Grant). g.txn) txn grants)))
        → holders_of (x ∷ grants) ≡ with_holders txn grant.wants (holders_of (without (λ (g : Grant). g.txn) txn (x ∷ grants)))
    by true is later =
        let one : Some x ≡ Some grant = sym (ap (λ b. cond b (Some x) (of_txn (λ (g : Grant). g.txn) txn grants)) is) ∙ some in
        let same : x ≡ grant = cc in
        ap (λ (g : Grant). with_holders x.txn g.wants (holders_of grants)) same
        ∙ ap (λ t. with_holders t grant.wants (holders_of grants)) (sym (same-eq {t = txn} {u = x.txn} is))
        ∙ ap (λ l. with_holders txn grant.wants (holders_of l)) (sym (without-first (λ (g : Grant). g.txn) txn x grants up is))
    by false other later =
        ap (with_holders x.txn x.wants) (later other)
        ∙ swap x.txn txn x.wants grant.wants (holders_of (without (λ (g : Grant). g.txn) txn grants)) (same-sym x.txn txn ∙ other)
        ∙ ap (λ b. with_holders txn grant.wants (holders_of (cond (not b) (x ∷ without (λ (g : Grant). g.txn) txn grants) (without (λ (g : Grant). g.txn) txn grants)))) (sym other)

-- Only who holds what counts.

pub index-renewed : (grant : Grant) (grants : List Grant) → AreInOrder (λ (g : Grant). g.txn) grants → of_txn (λ (g : Grant). g.txn) grant.txn grants ≡ Some grant
    → holders_of (with_one (λ (g : Grant). g.txn) (record grant { age = 0 }) grants) ≡ holders_of grants
index-renewed grant [] up some = absurd (let no_way : ⊥ = cc in no_way)
index-renewed grant (x ∷ grants) up some =
    by (is_same_txn grant.txn x.txn) (precedes grant.txn x.txn) refl refl
    (λ other. index-renewed grant grants (order-tail (λ (g : Grant). g.txn) x grants up) (behind-other (λ (g : Grant). g.txn) grant.txn x grants (Some grant) other some))
  where
    by : (b c : Bool) → is_same_txn grant.txn x.txn ≡ b → precedes grant.txn x.txn ≡ c
        → (is_same_txn grant.txn x.txn ≡ false → holders_of (with_one (λ (g : Grant). g.txn) (record grant { age = 0 }) grants) ≡ holders_of grants)
        → holders_of (if b then record grant { age = 0 } ∷ grants else (if c then record grant { age = 0 } ∷ (x ∷ grants) else x ∷ with_one (λ (g : Grant). g.txn) (record grant { age = 0 }) grants))
        ≡ holders_of (x ∷ grants)
    by true c is less later =
        let one : Some x ≡ Some grant = sym (ap (λ b. cond b (Some x) (of_txn (λ (g : Grant). g.txn) grant.txn grants)) is) ∙ some in
        let same : grant ≡ x = cc in
        ap (λ (g : Grant). with_holders g.txn g.wants (holders_of grants)) same
    by false true other less later =
        absurd (not-both (λ (g : Grant). g.txn) grant.txn grant (of_txn (λ (g : Grant). g.txn) grant.txn grants)
        (behind-other (λ (g : Grant). g.txn) grant.txn x grants (Some grant) other some) (none-behind (λ (g : Grant). g.txn) grant.txn x grants up less))
    by false false other less later = ap (with_holders x.txn x.wants) (later other)

pub index-older : (grants : List Grant) → holders_of (older_grants grants) ≡ holders_of grants
index-older [] = refl
index-older (grant ∷ grants) = ap (with_holders grant.txn grant.wants) (index-older grants)

-- A filter by transaction.

filter-with : (keep : Holder → Bool) (b : Bool) (txn : TxnId) (wants : List Want) (holders : List Holder) → ((want : Want) → keep (holder_by txn want) ≡ b)
    → AreInPlace holders → filter keep (with_holders txn wants holders) ≡ (if b then with_holders txn wants (filter keep holders) else filter keep holders)
filter-with keep true txn [] holders each up = refl
filter-with keep false txn [] holders each up = refl
filter-with keep true txn (want ∷ wants) holders each up =
    filter-put comes_before holder-order keep (holder_by txn want) (with_holders txn wants holders) (with-in-place txn wants holders up)
    ∙ ap (λ b. if b then with_holder (holder_by txn want) (filter keep (with_holders txn wants holders)) else filter keep (with_holders txn wants holders)) (each want)
    ∙ ap (with_holder (holder_by txn want)) (filter-with keep true txn wants holders each up)
filter-with keep false txn (want ∷ wants) holders each up =
    filter-put comes_before holder-order keep (holder_by txn want) (with_holders txn wants holders) (with-in-place txn wants holders up)
    ∙ ap (λ b. if b then with_holder (holder_by txn want) (filter keep (with_holders txn wants holders)) else filter keep (with_holders txn wants holders)) (each want)
    ∙ filter-with keep false txn wants holders each up

pub index-filter : (keep : Holder → Bool) (p : Grant → Bool) (grants : List Grant) → All (λ (g : Grant). (want : Want) → keep (holder_by g.txn want) ≡ p g) grants
    → filter keep (holders_of grants) ≡ holders_of (filter p grants)
index-filter keep p [] all = refl
index-filter keep p (grant ∷ grants) all =
    filter-with keep (p grant) grant.txn grant.wants (holders_of grants) (All-head (λ (g : Grant). (want : Want) → keep (holder_by g.txn want) ≡ p g) grant grants all) (index-in-place grants)
    ∙ by (p grant) (index-filter keep p grants (All-tail (λ (g : Grant). (want : Want) → keep (holder_by g.txn want) ≡ p g) grant grants all))
  where
    by : (b : Bool) → filter keep (holders_of grants) ≡ holders_of (filter p grants)
        → (if b then with_holders grant.txn grant.wants (filter keep (holders_of grants)) else filter keep (holders_of grants))
        ≡ holders_of (cond b (grant ∷ filter p grants) (filter p grants))
    by true later = ap (with_holders grant.txn grant.wants) later
    by false later = later
