-- Which items are a site's own.
use Rattle.std.proofs.Common.{arith, ◌≡◌, ⊎_elim, ℕ, suc, ◌+◌, Bool, true, false, Some, List, [], ◌∷◌, refl, sym, ap, subst}
use Rattle.std.specs.Prelude.{All, IsTrue, ◌==◌, not, slice_get}
use Rattle.std.specs.List.{Contains, list_all}
use Rattle.std.proofs.lemmas.Bool.{and_parts, false≢true}
use Rattle.std.proofs.lemmas.List.Elements.{All-cons, All-nil}
use Rattle.pv_base.proofs.ContainsLemmas.{Contains-nil, Contains-cases}
use Rattle.pv_base.specs.Catalog.{Item}
use Rattle.pv_base.specs.Want.{Want}
use Rattle.pv_base.specs.declared.txn.TxnId.{TxnId}
use Rattle.pv_law_step.proofs.StepCases.{if_case}
use Rattle.pv_law_step.proofs.WidthLemmas.{or-none}
use Rattle.pv_protocol.specs.Here.{Here}
use Rattle.pv_protocol.specs.Lock.{is_home, is_of_site, is_lock_ignored}
use Rattle.pv_protocol.specs.Outcome.{items_from, items_here}

all-pass : {X : Type 0} (p : X → Bool) (xs : List X) → list_all p xs ≡ true → All (λ x. IsTrue (p x)) xs
all-pass p [] is = All-nil (λ x. IsTrue (p x))
all-pass p (x ∷ xs) is = let parts = and_parts (p x) (list_all p xs) is in All-cons (λ y. IsTrue (p y)) x xs parts.0 (all-pass p xs parts.1)

is-not : (b : Bool) → not b ≡ false → b ≡ true
is-not true h = refl
is-not false h = absurd (false≢true (sym h))

-- Wants that are taken notice of are of the site's own items.
pub homes-of-heard : (here : Here) (from : ℕ) (txn : TxnId) (wants : List Want) → is_lock_ignored here from txn wants ≡ false
    → All (λ (want : Want). IsTrue (is_home here.setup.catalog here.me want.item)) wants
homes-of-heard here from txn wants heard =
    all-pass (λ (want : Want). is_home here.setup.catalog here.me want.item) wants (is-not _ (or-none _ _ (or-none _ _ heard).1).0)

-- The items that are listed from a place on are the site's.
listed-home : (site first : ℕ) (items all : List Item) → ((i : ℕ) → slice_get all (first + i) ≡ slice_get items i)
    → (n : ℕ) → Contains (items_from site first items) n → IsTrue (is_of_site site (slice_get all n))
listed-home site first [] all same n h = absurd (Contains-nil n h)
listed-home site first (declared ∷ items) all same n h =
    let later : Contains (items_from site (first + 1) items) n → IsTrue (is_of_site site (slice_get all n)) =
    listed-home site (first + 1) items all
    (λ i. subst (λ (k : ℕ). slice_get all k ≡ slice_get items i) (omega arith) (same (suc i))) n in
    if_case (λ (list : List ℕ). Contains list n → IsTrue (is_of_site site (slice_get all n))) (declared.site == site)
    (λ own k. ⊎_elim
    (λ this. subst (λ (m : ℕ). IsTrue (is_of_site site (slice_get all m))) this (here-home own))
    later
    (Contains-cases first (items_from site (first + 1) items) n k))
    (λ other k. later k)
    h
  where
    here-home : (declared.site == site) ≡ true → IsTrue (is_of_site site (slice_get all first))
    here-home own =
        let at : slice_get all first ≡ Some declared = subst (λ (k : ℕ). slice_get all k ≡ Some declared) (omega arith) (same 0) in
        subst (λ found. IsTrue (is_of_site site found)) (sym at) own

pub items-home : (here : Here) (n : ℕ) → Contains (items_here here) n → IsTrue (is_home here.setup.catalog here.me n)
items-home here n h = listed-home here.me 0 here.setup.catalog.items here.setup.catalog.items
    (λ i. ap (λ (k : ℕ). slice_get here.setup.catalog.items k) (omega arith)) n h
