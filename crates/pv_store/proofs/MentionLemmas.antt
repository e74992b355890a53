-- What the shown values of a site name.
use Rattle.std.proofs.Common.{◌≡◌, ◌∙◌, ⊎_elim, zero, suc, ℕ, ◌≤◌, ◌+◌, Bool, true, false, Some, List, [], ◌∷◌, ◌++◌, ◌==◌, ◌||◌, length, take, refl, sym, ap, subst, arith}
use Rattle.std.specs.Prelude.{◌↔◌, slice_get, filter, if◌then◌else◌, IsTrue}
use Rattle.std.specs.List.{Contains, list_any}
use Rattle.std.proofs.lemmas.Bool.{false≢true, or_cases, or_left, or_right}
use Rattle.std.proofs.lemmas.Grind.{common_steps}
use Rattle.std.proofs.lemmas.List.Elements.{All-contains, filter_passes}
use Rattle.std.proofs.lemmas.Option.{none-some}
use Rattle.pv_base.proofs.AssignmentLemmas.{same-eq}
use Rattle.pv_base.proofs.ContainsLemmas.{Contains-first, Contains-behind, Contains-nil, Contains-cases, Contains-filter}
use Rattle.pv_law_polyvalues.proofs.AscendingLemmas.{one-ascending}
use Rattle.pv_base.specs.Assignment.{AreAscending, is_same_txn}
use Rattle.pv_base.specs.Catalog.{Item, Declared}
use Rattle.pv_base.specs.declared.txn.TxnId.{TxnId}
use Rattle.pv_base.specs.Named.{names_of}
use Rattle.pv_base.specs.Polyvalue.{names}
use Rattle.pv_format.specs.Record.{Record}
use Rattle.pv_law_step.proofs.HomeLemmas.{items-home}
use Rattle.pv_law_step.proofs.NameLists.{listed-names, names-listed, united}
use Rattle.pv_protocol.specs.Here.{Here}
use Rattle.pv_protocol.specs.Lock.{is_home, is_of_site}
use Rattle.pv_protocol.specs.Outcome.{is_named_here, items_from, items_here, named_here, names_shown}
use Rattle.pv_protocol.specs.Shown.{shown}
use Rattle.pv_store.specs.Held.{ArePlaced}
use Rattle.pv_store.specs.Kept.{IsStoreOf, Kept, Places, has_place, txns_of}

-- What is held of a store is held of the site that it is of.

pub placed-of : (kept : Kept) (here : Here) → IsStoreOf here kept → ArePlaced kept.catalog kept.site kept.records kept.records kept.room.places
    → ArePlaced here.setup.catalog here.me here.records here.records kept.room.places
placed-of kept here of are =
    subst (λ (records : List Record). ArePlaced here.setup.catalog here.me records records kept.room.places) of.records
    (subst (λ site. ArePlaced here.setup.catalog site kept.records kept.records kept.room.places) of.site
    (subst (λ (catalog : Declared). ArePlaced catalog kept.site kept.records kept.records kept.room.places) of.catalog are))

-- Tests of lists.

some-one : {X : Type 0} (x y : X) → Some x ≡ Some y → x ≡ y
some-one x y e = cc

pub any-has : {X : Type 0} (p : X → Bool) (xs : List X) → list_any p xs ≡ true → (x : X) × Contains xs x × (p x ≡ true)
any-has p [] is = absurd (false≢true is)
any-has p (x ∷ xs) is =
    ⊎_elim (λ first. (x, Contains-first x xs, first)) (λ rest. let found = any-has p xs rest in (found.0, Contains-behind x xs found.0 found.1, found.2)) (or_cases (p x) (list_any p xs) is)

pub has-any : {X : Type 0} (p : X → Bool) (xs : List X) (x : X) → Contains xs x → p x ≡ true → list_any p xs ≡ true
has-any p [] x h is = absurd (Contains-nil x h)
has-any p (y ∷ ys) x h is =
    ⊎_elim (λ same. or_left (p y) (list_any p ys) (ap p same ∙ is)) (λ rest. or_right (p y) (list_any p ys) (has-any p ys x rest is)) (Contains-cases y ys x h)

pub both-ways : (a b : Bool) → (a ≡ true → b ≡ true) → (b ≡ true → a ≡ true) → a ≡ b
both-ways true b to from = sym (to refl)
both-ways false true to from = from refl
both-ways false false to from = refl

-- An item of the site is listed.

listed : (site first : ℕ) (items : List Item) (k : ℕ) → IsTrue (is_of_site site (slice_get items k)) → Contains (items_from site first items) (first + k)
listed site first [] k home = absurd (false≢true home)
listed site first (declared ∷ items) zero home =
    subst (λ (test : Bool). Contains (if test then first ∷ items_from site (first + 1) items else items_from site (first + 1) items) (first + 0)) (sym home)
    (subst (λ n. Contains (first ∷ items_from site (first + 1) items) n) (omega arith) (Contains-first first (items_from site (first + 1) items)))
listed site first (declared ∷ items) (suc k) home =
    by (declared.site == site) (subst (λ n. Contains (items_from site (first + 1) items) n) (omega arith) (listed site (first + 1) items k home))
  where
    by : (test : Bool) → Contains (items_from site (first + 1) items) (first + suc k)
        → Contains (if test then first ∷ items_from site (first + 1) items else items_from site (first + 1) items) (first + suc k)
    by true h = Contains-behind first (items_from site (first + 1) items) (first + suc k) h
    by false h = h

pub home-listed-in : (catalog : Declared) (site item : ℕ) → IsTrue (is_home catalog site item) → Contains (items_from site 0 catalog.items) item
home-listed-in catalog site item home = subst (λ n. Contains (items_from site 0 catalog.items) n) (omega arith) (listed site 0 catalog.items item home)

pub home-listed : (here : Here) (item : ℕ) → IsTrue (is_home here.setup.catalog here.me item) → Contains (items_here here) item
home-listed here item home = subst (λ n. Contains (items_here here) n) (omega arith) (listed here.me 0 here.setup.catalog.items item home)

-- The list of the named.

module _ (catalog : Declared) (records : List Record) where
  pub shown-ascend : (items : List ℕ) → AreAscending (names_shown catalog records items)
  shown-ascend [] = λ i j d before within. absurd (omega (arith, within))
  shown-ascend (item ∷ items) = (united (names_of (shown catalog records item)) (names_shown catalog records items) (shown-ascend items)).ascending

  shown-names : (items : List ℕ) (txn : TxnId) → Contains (names_shown catalog records items) txn → list_any (λ item. names (shown catalog records item) txn) items ≡ true
  shown-names [] txn h = absurd (Contains-nil txn h)
  shown-names (item ∷ items) txn h =
      ⊎_elim
      (λ own. or_left (names (shown catalog records item) txn) (list_any (λ item. names (shown catalog records item) txn) items) (listed-names (shown catalog records item) txn own))
      (λ rest. or_right (names (shown catalog records item) txn) (list_any (λ item. names (shown catalog records item) txn) items) (shown-names items txn rest))
      ((united (names_of (shown catalog records item)) (names_shown catalog records items) (shown-ascend items)).only txn h)

  names-shown : (items : List ℕ) (txn : TxnId) → list_any (λ item. names (shown catalog records item) txn) items ≡ true → Contains (names_shown catalog records items) txn
  names-shown [] txn is = absurd (false≢true is)
  names-shown (item ∷ items) txn is =
      let both = united (names_of (shown catalog records item)) (names_shown catalog records items) (shown-ascend items) in
      ⊎_elim
      (λ own. both.left txn (names-listed (shown catalog records item) txn own))
      (λ rest. both.right txn (names-shown items txn rest))
      (or_cases (names (shown catalog records item) txn) (list_any (λ item. names (shown catalog records item) txn) items) is)

pub listed-is-named : (here : Here) (txn : TxnId) → Contains (named_here here) txn → is_named_here here txn ≡ true
unfolding named_here is_named_here
listed-is-named here txn h = shown-names here.setup.catalog here.records (items_here here) txn h

pub named-is-listed : (here : Here) (txn : TxnId) → is_named_here here txn ≡ true → Contains (named_here here) txn
unfolding named_here is_named_here
named-is-listed here txn is = names-shown here.setup.catalog here.records (items_here here) txn is

pub named-ascend : (here : Here) → AreAscending (named_here here)
unfolding named_here
named-ascend here = shown-ascend here.setup.catalog here.records (items_here here)

-- A transaction that is named stands in the index.

place-by : (test : Bool) (rest : List TxnId) (first txn : TxnId) (own else_ : Bool) → is_same_txn txn first ≡ test → (else_ ≡ true → Contains rest txn)
    → (if test then own else else_) ≡ true → Contains (first ∷ rest) txn
place-by true rest first txn own else_ same later is = subst (λ (t : TxnId). Contains (first ∷ rest) t) (sym (same-eq {t = txn} {u = first} same)) (Contains-first first rest)
place-by false rest first txn own else_ apart later is = Contains-behind first rest txn (later is)

place-listed : (places : Places) (txn : TxnId) (item : ℕ) → has_place places txn item ≡ true → Contains (txns_of places) txn
place-listed [] txn item is = absurd (false≢true is)
place-listed (place ∷ places) txn item is =
    place-by (is_same_txn txn place.0) (txns_of places) place.0 txn (list_any (λ other. item == other) place.1) (has_place places txn item) refl (place-listed places txn item) is

module _ (here : Here) (places : Places) (placed : ArePlaced here.setup.catalog here.me here.records here.records places) where
  pub named-place : (txn : TxnId) → is_named_here here txn ≡ true → Contains (txns_of places) txn
  unfolding is_named_here
  named-place txn is =
      let one = any-has (λ item. names (shown here.setup.catalog here.records item) txn) (items_here here) is in
      place-listed places txn one.0 (placed one.0 txn (items-home here one.0 one.1) one.2)

  -- Those of the index that are named are all that are named.
  pub all-named : (txns : List TxnId) → AreAscending txns → ((t : TxnId) → Contains txns t ↔ Contains (filter (is_named_here here) (txns_of places)) t) → txns ≡ named_here here
  all-named txns up same =
      one-ascending txns (named_here here) up (named-ascend here)
      (λ t h. named-is-listed here t (All-contains (λ t. is_named_here here t ≡ true) (filter (is_named_here here) (txns_of places)) t (filter_passes (is_named_here here) (txns_of places)) ((same t).0 h)))
      (λ t h. (same t).1 (Contains-filter (is_named_here here) (txns_of places) t (listed-is-named here t h) (named-place t (listed-is-named here t h))))

  no-first : (txns : List TxnId) → ((t : TxnId) → Contains txns t → ⊥) → txns ≡ []
  no-first [] none = refl
  no-first (t ∷ ts) none = absurd (none t (Contains-first t ts))

  pub none-named : list_any (is_named_here here) (txns_of places) ≡ false → named_here here ≡ []
  none-named none = no-first (named_here here)
      (λ t h. let named = listed-is-named here t h in
      false≢true (sym none ∙ has-any (is_named_here here) (txns_of places) t (named-place t named) named))

pub some-named : (here : Here) (txn : TxnId) → is_named_here here txn ≡ true → named_here here ≡ [] → ⊥
some-named here txn is none = Contains-nil txn (subst (λ txns. Contains txns txn) none (named-is-listed here txn is))

-- One element more.

cond-append : {X : Type 0} (test : Bool) (x : X) (xs ys : List X) → (if test then x ∷ (xs ++ ys) else xs ++ ys) ≡ (if test then x ∷ xs else xs) ++ ys
cond-append true x xs ys = refl
cond-append false x xs ys = refl

pub filter-next : {X : Type 0} (p : X → Bool) (xs : List X) (i : ℕ) (x : X) → slice_get xs i ≡ Some x
    → filter p (take (suc i) xs) ≡ filter p (take i xs) ++ (if p x then x ∷ [] else [])
filter-next p [] i x at = absurd (none-some x at)
filter-next p (y ∷ ys) zero x at = ap (λ z. if p z then z ∷ [] else []) (some-one y x at)
filter-next p (y ∷ ys) (suc i) x at =
    ap (λ rest. if p y then y ∷ rest else rest) (filter-next p ys i x at) ∙ cond-append (p y) y (filter p (take i ys)) (if p x then x ∷ [] else [])

or-assoc : (a b c : Bool) → a || (b || c) ≡ (a || b) || c
or-assoc true b c = refl
or-assoc false b c = refl

or-false : (b : Bool) → b || false ≡ b
or-false true = refl
or-false false = refl

pub any-next : {X : Type 0} (p : X → Bool) (xs : List X) (i : ℕ) (x : X) → slice_get xs i ≡ Some x → list_any p (take (suc i) xs) ≡ list_any p (take i xs) || p x
any-next p [] i x at = absurd (none-some x at)
any-next p (y ∷ ys) zero x at = or-false (p y) ∙ ap p (some-one y x at)
any-next p (y ∷ ys) (suc i) x at = ap (λ rest. p y || rest) (any-next p ys i x at) ∙ or-assoc (p y) (list_any p (take i ys)) (p x)

pub take-all : {X : Type 0} (xs : List X) (i : ℕ) → length xs ≤ i → take i xs ≡ xs
take-all xs i far = grind (arith, common_steps)
