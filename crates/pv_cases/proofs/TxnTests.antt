-- What `==` and `cmp` of two transactions say.
use Rattle.std.proofs.Common.{◌≡◌, ⊎_elim, Bool, false, true, ◌&&◌, ◌==◌, Decides, IsTrue, Ordering, Less, Equal, Greater, is_lt, refl, sym, ap, subst, ◌∙◌}
use Rattle.std.specs.Ordering.{eq_by_cmp, is_eq, ordering_reverse}
use Rattle.std.specs.Cmp.{IsTotalOrder, nat_cmp_total, on_total, then_total, tied_itself}
use Rattle.std.proofs.Math.Bool.{and_assoc}
use Rattle.std.proofs.lemmas.Bool.{false≢true, true≢false}
use Rattle.pv_base.specs.declared.txn.TxnId.{TxnId}
use Rattle.pv_base.specs.Assignment.{is_same_txn, txn_cmp, precedes}
use Rattle.pv_base.proofs.AssignmentLemmas.{same-eq, same-from-eq, precedes-other, precedes-other', order-of-two}

-- What `==` says.

-- what the derived `==` computes
abbrev pub equal_txn : TxnId → TxnId → Bool
equal_txn t u = (t.site.0 == u.site.0) && ((t.epoch == u.epoch) && (t.number == u.number))

pub txn-decided : (t u : TxnId) → Decides (equal_txn t u) (t ≡ u)
txn-decided t u =
    subst (λ (test : Bool). Decides test (t ≡ u)) (and_assoc (t.site.0 == u.site.0) (t.epoch == u.epoch) (t.number == u.number))
    (same-eq {t = t} {u = u}, same-from-eq {t = t} {u = u})

pub equal-txns : (t u : TxnId) {b : Bool} → b ≡ equal_txn t u → b ≡ true → t ≡ u
equal-txns t u is equal = (txn-decided t u).0 (sym is ∙ equal)

pub unequal-txns : (t u : TxnId) {b : Bool} → b ≡ equal_txn t u → b ≡ false → t ≡ u → ⊥
unequal-txns t u is differ same = true≢false (sym ((txn-decided t u).1 same) ∙ sym is ∙ differ)

-- What `cmp` says.

pub txn-total : IsTotalOrder txn_cmp
txn-total =
    then_total (on_total (λ (t : TxnId). t.site.0) nat_cmp_total)
    (then_total (on_total (λ (t : TxnId). t.epoch) nat_cmp_total) (on_total (λ (t : TxnId). t.number) nat_cmp_total))

less-differs : (o : Ordering) → is_lt o ≡ true → is_eq o ≡ false
less-differs Less h = refl
less-differs Equal h = absurd (false≢true h)
less-differs Greater h = absurd (false≢true h)

reverse-differs : (o : Ordering) → is_lt o ≡ true → is_eq (ordering_reverse o) ≡ false
reverse-differs Less h = refl
reverse-differs Equal h = absurd (false≢true h)
reverse-differs Greater h = absurd (false≢true h)

-- Transactions are the same exactly where the order doesn't tell them apart.
pub ties : (t u : TxnId) → is_same_txn t u ≡ eq_by_cmp txn_cmp t u
ties t u =
    ⊎_elim
    (λ before. precedes-other t u before ∙ sym (less-differs (txn_cmp t u) before))
    (λ others. ⊎_elim
    (λ equal. same-from-eq equal ∙ sym (ap is_eq (subst (λ (v : TxnId). txn_cmp t v ≡ Equal) equal (tied_itself txn-total t))))
    (λ behind. precedes-other' u t behind
    ∙ sym (ap is_eq (txn-total.antisymm t u) ∙ reverse-differs (txn_cmp u t) behind))
    others)
    (order-of-two t u)

pub less-precedes : (t u : TxnId) → Less ≡ txn_cmp t u → IsTrue (precedes t u)
less-precedes t u is = ap is_lt (sym is)

pub greater-precedes : (t u : TxnId) → Greater ≡ txn_cmp t u → IsTrue (precedes u t)
greater-precedes t u is = ap is_lt (txn-total.antisymm u t ∙ ap ordering_reverse (sym is))

pub equal-same : (t u : TxnId) → Equal ≡ txn_cmp t u → t ≡ u
equal-same t u is = same-eq {t = t} {u = u} (ties t u ∙ ap is_eq (sym is))
