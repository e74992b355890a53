-- Transactions are told apart and ordered, and an assignment answers by the outcomes that it was given.
use Rattle.std.proofs.Common.{◌≡◌, ◌⊎◌, ℕ, Bool, true, false, not, ◌&&◌, ◌==◌, ◌||◌, List, inl, inr, if◌then◌else◌, IsTrue, Ordering, Less, Equal, Greater, nat_cmp, is_lt, refl, sym, ap, subst, ◌∙◌, filter}
use Rattle.std.specs.List.{list_any}
use Rattle.std.specs.Ordering.{ordering_then, ordering_reverse}
use Rattle.std.specs.Cmp.{IsTotalOrder, nat_cmp_total, on_total, then_total, tied_itself, ranked}
use Rattle.std.proofs.lemmas.Bool.{and_parts, and_from, false≢true, true≢false, eqb-true, eq-eqb, false_from_ne_true}
use Rattle.std.proofs.lemmas.Map.Views.{any-filter_same}
use Rattle.pv_base.specs.declared.txn.TxnId.{TxnId}
use Rattle.pv_base.specs.Assignment.{is_same_txn, txn_cmp, precedes, commits, with_outcome}

-- Whether two transactions are the same.

pub same-refl : (t : TxnId) → is_same_txn t t ≡ true
same-refl t =
    and_from _ _ (and_from _ _ (eq-eqb t.site.0 t.site.0 refl) (eq-eqb t.epoch t.epoch refl)) (eq-eqb t.number t.number refl)

-- transactions with equal parts are equal
from-parts : (t u : TxnId) → t.site.0 ≡ u.site.0 → t.epoch ≡ u.epoch → t.number ≡ u.number → t ≡ u
from-parts t u site epoch number = λ i. record { site = record { 0 = site i }; epoch = epoch i; number = number i }

pub same-eq : {t u : TxnId} → is_same_txn t u ≡ true → t ≡ u
same-eq {t} {u} same =
    let parts = and_parts (t.site.0 == u.site.0 && t.epoch == u.epoch) (t.number == u.number) same in
    let front = and_parts (t.site.0 == u.site.0) (t.epoch == u.epoch) parts.0 in
    from-parts t u (eqb-true t.site.0 u.site.0 front.0) (eqb-true t.epoch u.epoch front.1) (eqb-true t.number u.number parts.1)

pub different : {t u : TxnId} → (t ≡ u → ⊥) → is_same_txn t u ≡ false
different {t} {u} apart = false_from_ne_true (is_same_txn t u) (λ same. apart (same-eq same))

-- the transactions are equal where the test says so
pub same-from-eq : {t u : TxnId} → t ≡ u → is_same_txn t u ≡ true
same-from-eq {t} {u} equal = subst (λ (v : TxnId). is_same_txn t v ≡ true) equal (same-refl t)

-- what the test tells apart isn't equal
pub apart-from-test : {t u : TxnId} → is_same_txn t u ≡ false → t ≡ u → ⊥
apart-from-test test equal = true≢false (sym (same-from-eq equal) ∙ test)

same-sym-by : (t u : TxnId) (b : Bool) → is_same_txn t u ≡ b → b ≡ is_same_txn u t
same-sym-by t u true same = sym (same-from-eq (sym (same-eq {t = t} {u = u} same)))
same-sym-by t u false test = sym (different (λ equal. apart-from-test {t = t} {u = u} test (sym equal)))

pub same-sym : (t u : TxnId) → is_same_txn t u ≡ is_same_txn u t
same-sym t u = same-sym-by t u (is_same_txn t u) refl

-- The order of transactions.

txn-total : IsTotalOrder txn_cmp
txn-total =
    then_total (on_total (λ (t : TxnId). t.site.0) nat_cmp_total)
    (then_total (on_total (λ (t : TxnId). t.epoch) nat_cmp_total) (on_total (λ (t : TxnId). t.number) nat_cmp_total))

is-less : (o : Ordering) → is_lt o ≡ true → o ≡ Less
is-less Less h = refl
is-less Equal h = absurd (false≢true h)
is-less Greater h = absurd (false≢true h)

then-equal : (o p : Ordering) → ordering_then o p ≡ Equal → (o ≡ Equal) × (p ≡ Equal)
then-equal Less p e = absurd (true≢false (ap is_lt e))
then-equal Equal p e = (refl, e)
then-equal Greater p e = absurd (let no : ⊥ = cc in no)

nat-equal : (a b : ℕ) → nat_cmp a b ≡ Equal → a ≡ b
nat-equal a b e = ranked a b Equal (sym e)

cmp-equal : (t u : TxnId) → txn_cmp t u ≡ Equal → t ≡ u
cmp-equal t u e =
    let parts = then-equal (nat_cmp t.site.0 u.site.0) (ordering_then (nat_cmp t.epoch u.epoch) (nat_cmp t.number u.number)) e in
    let rest = then-equal (nat_cmp t.epoch u.epoch) (nat_cmp t.number u.number) parts.1 in
    from-parts t u (nat-equal t.site.0 u.site.0 parts.0) (nat-equal t.epoch u.epoch rest.0) (nat-equal t.number u.number rest.1)

pub precedes-irrefl : (t : TxnId) → IsTrue (precedes t t) → ⊥
precedes-irrefl t before = true≢false (sym before ∙ ap is_lt (tied_itself txn-total t))

pub precedes-trans : (t u v : TxnId) → IsTrue (precedes t u) → IsTrue (precedes u v) → IsTrue (precedes t v)
precedes-trans t u v before behind =
    ap is_lt (txn-total.trans t u v (is-less (txn_cmp t u) before) (is-less (txn_cmp u v) behind))

pub precedes-other : (t u : TxnId) → IsTrue (precedes t u) → is_same_txn t u ≡ false
precedes-other t u before =
    different (λ equal. precedes-irrefl u (subst (λ (v : TxnId). IsTrue (precedes v u)) equal before))

pub precedes-other' : (t u : TxnId) → IsTrue (precedes t u) → is_same_txn u t ≡ false
precedes-other' t u before = same-sym u t ∙ precedes-other t u before

order-by : (t u : TxnId) (o : Ordering) → txn_cmp t u ≡ o → IsTrue (precedes t u) ⊎ ((t ≡ u) ⊎ IsTrue (precedes u t))
order-by t u Less e = inl (ap is_lt e)
order-by t u Equal e = inr (inl (cmp-equal t u e))
order-by t u Greater e = inr (inr (ap is_lt (txn-total.antisymm u t ∙ ap ordering_reverse e)))

pub order-of-two : (t u : TxnId) → IsTrue (precedes t u) ⊎ ((t ≡ u) ⊎ IsTrue (precedes u t))
order-of-two t u = order-by t u (txn_cmp t u) refl

-- What an assignment says with one outcome set.

-- Where the transaction is taken out of the list, it doesn't commit, and any other does as before.
commits-without : (t : TxnId) (assignment : List TxnId) (u : TxnId) (b : Bool) → is_same_txn t u ≡ b →
    list_any (λ w. is_same_txn w u) (filter (λ w. not (is_same_txn w t)) assignment) ≡ (if b then false else commits assignment u)
commits-without t assignment u true same =
    any-filter_same (λ w. is_same_txn w u) (λ w. not (is_same_txn w t)) false
    (λ w here. ap not (same-from-eq (same-eq {t = w} {u = u} here ∙ sym (same-eq {t = t} {u = u} same)))) assignment
commits-without t assignment u false test =
    any-filter_same (λ w. is_same_txn w u) (λ w. not (is_same_txn w t)) true
    (λ w here. ap not (different {t = w} {u = t} (λ equal. apart-from-test {t = t} {u = u} test (sym equal ∙ same-eq {t = w} {u = u} here)))) assignment

commits-front : (b : Bool) (rest : Bool) → (b || rest) ≡ (if b then true else rest)
commits-front true rest = refl
commits-front false rest = refl

pub commits-with : (t : TxnId) (outcome : Bool) (assignment : List TxnId) (u : TxnId) →
    commits (with_outcome t outcome assignment) u ≡ (if is_same_txn t u then outcome else commits assignment u)
commits-with t true assignment u = commits-front (is_same_txn t u) (commits assignment u)
commits-with t false assignment u = commits-without t assignment u (is_same_txn t u) refl

pub commits-with-same : (t : TxnId) (outcome : Bool) (assignment : List TxnId) → commits (with_outcome t outcome assignment) t ≡ outcome
commits-with-same t outcome assignment =
    commits-with t outcome assignment t ∙ ap (λ (b : Bool). if b then outcome else commits assignment t) (same-refl t)

pub commits-with-other : (t : TxnId) (outcome : Bool) (assignment : List TxnId) (u : TxnId) → is_same_txn t u ≡ false →
    commits (with_outcome t outcome assignment) u ≡ commits assignment u
commits-with-other t outcome assignment u test =
    commits-with t outcome assignment u ∙ ap (λ (b : Bool). if b then outcome else commits assignment u) test

-- Where two assignments agree on a transaction, they agree on it after the same outcome is set in both.
pub commits-with-alike : (t : TxnId) (outcome : Bool) (assignment other : List TxnId) (u : TxnId) → commits assignment u ≡ commits other u →
    commits (with_outcome t outcome assignment) u ≡ commits (with_outcome t outcome other) u
commits-with-alike t outcome assignment other u alike =
    commits-with t outcome assignment u
    ∙ ap (λ (rest : Bool). if is_same_txn t u then outcome else rest) alike
    ∙ sym (commits-with t outcome other u)
