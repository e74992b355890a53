-- Filters that keep all, or keep the same, of a list of transactions.
use Rattle.std.proofs.Common.{◌≡◌, ⊎_elim, Bool, true, false, List, [], ◌∷◌, cond, refl, ap, ap₂, subst, ◌∙◌, filter}
use Rattle.std.specs.Prelude.{IsTrue, not, ◌||◌, map}
use Rattle.std.specs.List.{Contains}
use Rattle.std.proofs.lemmas.Bool.{or_left}
use Rattle.std.proofs.lemmas.List.Elements.{All-contains, All-contains_itself, All-filter, Contains-append_left, Contains-append_right, Contains-append_cases}
use Rattle.pv_base.specs.declared.txn.TxnId.{TxnId}
use Rattle.pv_base.specs.Assignment.{AreAscending, is_same_txn, precedes, commits, with_outcome, assignments}
use Rattle.pv_law_polyvalues.proofs.AscendingLemmas.{All-from_members, ascending-tail, ascending-first}
use Rattle.pv_base.proofs.AssignmentLemmas.{same-refl, precedes-other, precedes-other'}
use Rattle.pv_base.proofs.ContainsLemmas.{Contains-first, Contains-behind, Contains-nil, Contains-cases}
use Rattle.pv_base.proofs.MapLemmas.{Contains-map, Contains-unmap}
use Rattle.pv_law_polyvalues.proofs.TableLemmas.{before-aborts}

cond-step : {X : Type 0} (b c : Bool) (x : X) (xs ys : List X) → b ≡ c → xs ≡ ys → cond b (x ∷ xs) xs ≡ cond c (x ∷ ys) ys
cond-step b c x xs ys test rest = ap₂ (λ b xs. cond b (x ∷ xs) xs) test rest

-- Tests that agree on the members keep the same.
pub filter-alike : {X : Type 0} (p q : X → Bool) (xs : List X) → ((x : X) → Contains xs x → p x ≡ q x) → filter p xs ≡ filter q xs
filter-alike p q [] alike = refl
filter-alike p q (x ∷ xs) alike =
    cond-step (p x) (q x) x (filter p xs) (filter q xs) (alike x (Contains-first x xs)) (filter-alike p q xs (λ y h. alike y (Contains-behind x xs y h)))

filter-every : {X : Type 0} (xs : List X) → filter (λ x. true) xs ≡ xs
filter-every [] = refl
filter-every (x ∷ xs) = ap (λ ys. x ∷ ys) (filter-every xs)

filter-none : {X : Type 0} (xs : List X) → filter (λ x. false) xs ≡ []
filter-none [] = refl
filter-none (x ∷ xs) = filter-none xs

-- A test that each member passes keeps all.
pub filter-all : {X : Type 0} (p : X → Bool) (xs : List X) → ((x : X) → Contains xs x → p x ≡ true) → filter p xs ≡ xs
filter-all p xs all = filter-alike p (λ x. true) xs all ∙ filter-every xs

-- To say that a transaction aborts changes nothing where it isn't listed.
pub aborted-already : (t : TxnId) (a : List TxnId) → ((u : TxnId) → Contains a u → IsTrue (precedes t u)) → with_outcome t false a ≡ a
aborted-already t a before = filter-all (λ u. not (is_same_txn u t)) a (λ u h. ap not (precedes-other' t u (before u h)))

-- the step for an assignment in which the first transaction commits
own-step : (t : TxnId) (ts b : List TxnId) → AreAscending (t ∷ ts) → filter (λ u. commits b u) ts ≡ b → filter (λ u. commits (t ∷ b) u) (t ∷ ts) ≡ t ∷ b
own-step t ts b up rest =
    cond-step (commits (t ∷ b) t) true t (filter (λ u. commits (t ∷ b) u) ts) b
    (or_left (is_same_txn t t) (commits b t) (same-refl t))
    (filter-alike (λ u. commits (t ∷ b) u) (λ u. commits b u) ts
    (λ u h. ap (λ same. same || commits b u) (precedes-other t u (ascending-first t ts up u h)))
    ∙ rest)

-- Of the transactions of an assignment of them, those commit that it lists, in their order.
pub assignment-own : (txns a : List TxnId) → AreAscending txns → Contains (assignments txns) a → filter (λ t. commits a t) txns ≡ a
assignment-own [] a up h =
    ⊎_elim (λ same. same) (λ behind. absurd (Contains-nil a behind)) (Contains-cases [] [] a h)
assignment-own (t ∷ ts) a up h =
    ⊎_elim
    (λ front. cond-step (commits a t) false t (filter (λ u. commits a u) ts) a
    (before-aborts t ts (All-from_members (λ u. IsTrue (precedes t u)) ts (ascending-first t ts up)) a front)
    (assignment-own ts a (ascending-tail t ts up) front))
    (λ back. let found = Contains-unmap (λ b. t ∷ b) (assignments ts) a back in
    subst (λ b. filter (λ u. commits b u) (t ∷ ts) ≡ b) found.1.1
    (own-step t ts found.0 up (assignment-own ts found.0 (ascending-tail t ts up) found.1.0)))
    (Contains-append_cases (assignments ts) (map (λ b. t ∷ b) (assignments ts)) a h)

-- What a filter keeps is in the list.
pub kept-listed : {X : Type 0} (p : X → Bool) (xs : List X) (x : X) → Contains (filter p xs) x → Contains xs x
kept-listed p xs x h = All-contains (Contains xs) (filter p xs) x (All-filter p (Contains xs) xs (All-contains_itself xs)) h

-- The assignments of one transaction more are those without it ..
pub assignment-without : (t : TxnId) (ts a : List TxnId) → Contains (assignments ts) a → Contains (assignments (t ∷ ts)) a
assignment-without t ts a h = Contains-append_left (assignments ts) (map (λ b. t ∷ b) (assignments ts)) a h

-- .. and those with it.
pub assignment-with : (t : TxnId) (ts a : List TxnId) → Contains (assignments ts) a → Contains (assignments (t ∷ ts)) (t ∷ a)
assignment-with t ts a h =
    Contains-append_right (assignments ts) (map (λ b. t ∷ b) (assignments ts)) (t ∷ a) (Contains-map (λ b. t ∷ b) (assignments ts) a h)
