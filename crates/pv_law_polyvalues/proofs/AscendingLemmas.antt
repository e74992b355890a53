-- Ascending lists of transactions: one for its members, no longer than a list that has them all, and one for any list's members.
use Rattle.std.proofs.Common.{◌≡◌, ◌⊎◌, ⊎_elim, ◌+◌, ◌<◌, ◌≤◌, Bool, true, false, List, [], ◌∷◌, inl, inr, cond, length, get_or, sym, ap, subst, ◌∙◌, arith}
use Rattle.std.specs.Prelude.{IsTrue, not, All}
use Rattle.std.specs.List.{AllPairs, Contains, filter}
use Rattle.std.proofs.lemmas.Bool.{not_from_false, false≢true}
use Rattle.std.proofs.lemmas.List.Elements.{All-contains_itself}
use Rattle.std.proofs.lemmas.List.Kept.{AllPairs-cons}
use Rattle.pv_base.specs.declared.txn.TxnId.{TxnId}
use Rattle.pv_base.specs.Assignment.{is_same_txn, precedes}
use Rattle.pv_base.proofs.ContainsLemmas.{Contains-first, Contains-behind, Contains-nil, Contains-cases, Contains-filter}
use Rattle.pv_base.proofs.OrderLemmas.{pairs-tail, pairs-first, one-ordered}
use Rattle.pv_base.proofs.AssignmentLemmas.{same-refl, precedes-irrefl, precedes-trans, precedes-other, order-of-two}

abbrev pub Ascending : List TxnId → Type 0
Ascending txns = AllPairs (λ txn later. IsTrue (precedes txn later)) txns

-- No transaction is in the list twice.
abbrev pub Distinct : List TxnId → Type 0
Distinct txns = AllPairs (λ txn later. is_same_txn txn later ≡ false) txns

module _ {X : Type 0} (P : X → Type 0) where
  pub All-from_members : (xs : List X) → ((x : X) → Contains xs x → P x) → All P xs
  All-from_members xs each = λ k d within. each _ (All-contains_itself xs k d within)

pub ascending-tail : (t : TxnId) (txns : List TxnId) → Ascending (t ∷ txns) → Ascending txns
ascending-tail t txns up = pairs-tail (λ txn later. IsTrue (precedes txn later)) t txns up

pub ascending-first : (t : TxnId) (txns : List TxnId) → Ascending (t ∷ txns) → (u : TxnId) → Contains txns u → IsTrue (precedes t u)
ascending-first t txns up = pairs-first (λ txn later. IsTrue (precedes txn later)) t txns up

pub ascending-cons : (t : TxnId) (txns : List TxnId) → ((u : TxnId) → Contains txns u → IsTrue (precedes t u)) → Ascending txns → Ascending (t ∷ txns)
ascending-cons t txns before up =
    AllPairs-cons (λ txn later. IsTrue (precedes txn later)) t txns (All-from_members (λ u. IsTrue (precedes t u)) txns before) up

pub ascending-distinct : (txns : List TxnId) → Ascending txns → Distinct txns
ascending-distinct txns up = λ i j d before within. precedes-other (get_or txns i d) (get_or txns j d) (up i j d before within)

-- Two ascending lists with the same members are one.

pub one-ascending : (ts us : List TxnId) → Ascending ts → Ascending us
    → ((x : TxnId) → Contains ts x → Contains us x) → ((x : TxnId) → Contains us x → Contains ts x) → ts ≡ us
one-ascending =
    one-ordered (λ txn later. IsTrue (precedes txn later)) precedes-irrefl precedes-trans

-- A list without repeats whose members are all in another list is no longer than it.

-- what a step of `filter` does to the length
fewer-cond : (b : Bool) (x : TxnId) (xs : List TxnId) → length (cond b (x ∷ xs) xs) ≤ length xs + 1
fewer-cond true x xs = omega arith
fewer-cond false x xs = omega arith

shorter-cond : (b : Bool) (x : TxnId) (xs ys : List TxnId) → b ≡ false → length xs ≤ length ys → length (cond b (x ∷ xs) xs) < length (x ∷ ys)
shorter-cond true x xs ys is shorter = absurd (false≢true (sym is))
shorter-cond false x xs ys is shorter = omega (arith, shorter)

filter-shorter : (p : TxnId → Bool) (xs : List TxnId) → length (filter p xs) ≤ length xs
filter-shorter p [] = omega arith
filter-shorter p (x ∷ xs) = omega (arith, fewer-cond (p x) x (filter p xs), filter-shorter p xs)

-- An element that doesn't pass makes the list shorter.
filter-drops : (p : TxnId → Bool) (xs : List TxnId) (x : TxnId) → p x ≡ false → Contains xs x → length (filter p xs) < length xs
filter-drops p [] x is h = absurd (Contains-nil x h)
filter-drops p (y ∷ ys) x is h =
    ⊎_elim
    (λ same. shorter-cond (p y) y (filter p ys) ys (ap p same ∙ is) (filter-shorter p ys))
    (λ behind. omega (arith, fewer-cond (p y) y (filter p ys), filter-drops p ys x is behind))
    (Contains-cases y ys x h)

pub fewer-distinct : (ts us : List TxnId) → Distinct ts → ((x : TxnId) → Contains ts x → Contains us x) → length ts ≤ length us
fewer-distinct [] us distinct kept = omega arith
fewer-distinct (t ∷ ts) us distinct kept =
    let other = λ (x : TxnId). not (is_same_txn t x) in
    let rest = fewer-distinct ts (filter other us) (pairs-tail (λ txn later. is_same_txn txn later ≡ false) t ts distinct)
    (λ x h. Contains-filter other us x (not_from_false _ (pairs-first (λ txn later. is_same_txn txn later ≡ false) t ts distinct x h)) (kept x (Contains-behind t ts x h))) in
    omega (arith, rest, filter-drops other us t (ap not (same-refl t)) (kept t (Contains-first t ts)))

pub fewer-ascending : (ts us : List TxnId) → Ascending ts → ((x : TxnId) → Contains ts x → Contains us x) → length ts ≤ length us
fewer-ascending ts us up kept = fewer-distinct ts us (ascending-distinct ts up) kept

-- Each list has an ascending list of its members.

-- the ascending list of the transaction and the members of an ascending list
pub record IsInserted (t : TxnId) (txns more : List TxnId) : Type 0 where
  pub ascending : Ascending more
  pub first : Contains more t
  pub kept : (x : TxnId) → Contains txns x → Contains more x
  pub only : (x : TxnId) → Contains more x → (t ≡ x) ⊎ Contains txns x

pub insert-behind : (t u : TxnId) (us more : List TxnId) → Ascending (u ∷ us) → IsTrue (precedes u t) → IsInserted t us more → IsInserted t (u ∷ us) (u ∷ more)
insert-behind t u us more up before is = record {
  ascending = ascending-cons u more
      (λ x h. ⊎_elim (λ same. subst (λ z. IsTrue (precedes u z)) same before) (λ old. ascending-first u us up x old) (is.only x h))
      is.ascending;
  first = Contains-behind u more t is.first;
  kept = λ x h. ⊎_elim (λ same. subst (Contains (u ∷ more)) same (Contains-first u more)) (λ old. Contains-behind u more x (is.kept x old)) (Contains-cases u us x h);
  only = λ x h. ⊎_elim
      (λ same. inr (subst (Contains (u ∷ us)) same (Contains-first u us)))
      (λ new. ⊎_elim (λ same. inl same) (λ old. inr (Contains-behind u us x old)) (is.only x new))
      (Contains-cases u more x h);
}

pub insert-first : (t u : TxnId) (us : List TxnId) → Ascending (u ∷ us) → IsTrue (precedes t u) → IsInserted t (u ∷ us) (t ∷ u ∷ us)
insert-first t u us up before = record {
  ascending = ascending-cons t (u ∷ us)
      (λ x h. ⊎_elim (λ same. subst (λ z. IsTrue (precedes t z)) same before) (λ old. precedes-trans t u x before (ascending-first u us up x old)) (Contains-cases u us x h))
      up;
  first = Contains-first t (u ∷ us);
  kept = λ x h. Contains-behind t (u ∷ us) x h;
  only = λ x h. Contains-cases t (u ∷ us) x h;
}

pub insert-same : (t u : TxnId) (us : List TxnId) → Ascending (u ∷ us) → t ≡ u → IsInserted t (u ∷ us) (u ∷ us)
insert-same t u us up same = record {
  ascending = up;
  first = subst (Contains (u ∷ us)) (sym same) (Contains-first u us);
  kept = λ x h. h;
  only = λ x h. inr h;
}

pub some-inserted : (t : TxnId) (txns : List TxnId) → Ascending txns → (more : List TxnId) × IsInserted t txns more
some-inserted t [] up = (
  t ∷ [],
  record {
    ascending = ascending-cons t [] (λ u h. absurd (Contains-nil u h)) up;
    first = Contains-first t [];
    kept = λ x h. absurd (Contains-nil x h);
    only = λ x h. Contains-cases t [] x h;
  },
)
some-inserted t (u ∷ us) up =
    ⊎_elim
    (λ before. (t ∷ u ∷ us, insert-first t u us up before))
    (λ other. ⊎_elim
    (λ same. (u ∷ us, insert-same t u us up same))
    (λ behind. let rest = some-inserted t us (ascending-tail u us up) in (u ∷ rest.0, insert-behind t u us rest.0 up behind rest.1))
    other)
    (order-of-two t u)

-- The ascending list has the members of the other list.
pub record IsOrdered (txns ordered : List TxnId) : Type 0 where
  pub ascending : Ascending ordered
  pub kept : (x : TxnId) → Contains txns x → Contains ordered x
  pub only : (x : TxnId) → Contains ordered x → Contains txns x

pub some-ordered : (txns : List TxnId) → (ordered : List TxnId) × IsOrdered txns ordered
some-ordered [] = ([], record { ascending = λ i j d before within. absurd (omega (arith, within)); kept = λ x h. h; only = λ x h. h })
some-ordered (t ∷ ts) =
    let rest = some-ordered ts in
    let more = some-inserted t rest.0 rest.1.ascending in (
      more.0,
      record {
        ascending = more.1.ascending;
        kept = λ x h. ⊎_elim
            (λ same. subst (Contains more.0) same more.1.first)
            (λ old. more.1.kept x (rest.1.kept x old))
            (Contains-cases t ts x h);
        only = λ x h. ⊎_elim
            (λ same. subst (Contains (t ∷ ts)) same (Contains-first t ts))
            (λ old. Contains-behind t ts x (rest.1.only x old))
            (more.1.only x h);
      },
    )
