-- Values once one more outcome is known, and which items are the site's.
use Rattle.std.proofs.Common.{◌≡◌, ◌∙◌, ⊎_elim, zero, suc, ℕ, ℤ, ◌<◌, ◌≤◌, Bool, true, false, Some, None, List, [], ◌∷◌, ◌++◌, ◌==◌, ◌||◌, length, map, All, refl, sym, ap, subst, arith}
use Rattle.std.specs.Prelude.{slice_get, if◌then◌else◌, IsTrue}
use Rattle.std.specs.List.{flat_map, list_any}
use Rattle.std.proofs.lemmas.Bool.{false≢true, or_cases, or_left, or_right, eqb-true, eq-eqb}
use Rattle.std.proofs.lemmas.List.{append-nil}
use Rattle.std.proofs.lemmas.List.Elements.{All-cons, All-head, All-tail, All-weaker}
use Rattle.std.proofs.lemmas.Option.{none-some, slice_get_within}
use Rattle.pv_base.specs.Catalog.{Item, Declared}
use Rattle.pv_base.specs.declared.limits.TheConstants.{HELD_NAMES}
use Rattle.pv_base.specs.declared.txn.TxnId.{TxnId}
use Rattle.pv_base.specs.Named.{names_of}
use Rattle.pv_base.specs.Polyvalue.{Case, IsPolyvalue, IsSettled, names, value_at}
use Rattle.pv_format.specs.Record.{Record, outcome_known}
use Rattle.pv_law_values.proofs.ShownMore.{shown-only, shown-settled, shown-unnamed, value-outcome}
use Rattle.pv_law_polyvalues.proofs.AscendingLemmas.{fewer-ascending}
use Rattle.pv_law_polyvalues.proofs.PolyvalueLemmas.{depends-named, value_at-agree}
use Rattle.pv_law_step.proofs.NameLists.{listed-names, names-ascend, names-listed}
use Rattle.pv_base.proofs.AssignmentLemmas.{commits-with-alike}
use Rattle.pv_base.specs.Assignment.{with_outcome}
use Rattle.pv_law_step.proofs.ShownLemmas.{shown-canonical, shown-value}
use Rattle.pv_model.specs.Alternatives.{Read}
use Rattle.pv_protocol.specs.Lock.{is_home, is_of_site}
use Rattle.pv_protocol.specs.Shown.{declared_or_zero, shown, shown_within}
use Rattle.pv_store.specs.Held.{Values, AreShown, ArePlaced}
use Rattle.pv_store.specs.Kept.{Kept, IsPlannedOn, has_place, replaced}
use Rattle.pv_store.specs.Settling.{settled_at}
use Rattle.pv_store.specs.Writes.{is_held}
use Rattle.pv_store.proofs.HeldLemmas.{shown-at}

-- What has a value is the site's.

here-by : (test : Bool) (cases old : List (Case ℤ)) → (if test then Some old else None) ≡ Some cases → (test ≡ true) × (cases ≡ old)
here-by true cases old e = (refl, (let same : Some old ≡ Some cases = e in cc))
here-by false cases old e = absurd (none-some cases e)

some-one : {X : Type 0} (x y : X) → Some x ≡ Some y → x ≡ y
some-one x y e = cc

pub held-home : (catalog : Declared) (site : ℕ) (records front : List Record) (values : Values) → AreShown catalog site records front values
    → (item : ℕ) (cases : List (Case ℤ)) → slice_get values item ≡ Some (Some cases) → IsTrue (is_home catalog site item) × (cases ≡ shown_within catalog records front item)
held-home catalog site records front values are item cases at =
    let within : item < length catalog.items = omega (arith, slice_get_within values item (Some cases) at, are.all) in
    here-by (is_home catalog site item) cases (shown_within catalog records front item) (some-one _ _ (sym (are.each item within) ∙ at))

pub unheld-away : (catalog : Declared) (site : ℕ) (records front : List Record) (values : Values) → AreShown catalog site records front values
    → (item : ℕ) → is_held (slice_get values item) ≡ false → is_home catalog site item ≡ false
unheld-away catalog site records front values are item unheld = by (is_home catalog site item) refl
  where
    by : (test : Bool) → is_home catalog site item ≡ test → test ≡ false
    by true home = absurd (false≢true (sym unheld ∙ ap is_held (shown-at catalog site records front values are item home)))
    by false away = refl

-- Settling.

pub settled-held : (catalog : Declared) (site : ℕ) (records : List Record) (values : Values) → AreShown catalog site records records values
    → (txn : TxnId) (outcome : Bool) (item : ℕ) (before after : List (Case ℤ)) → slice_get values item ≡ Some (Some before)
    → IsSettled (record { txn = txn; commits = outcome } ∷ []) before after → IsPolyvalue HELD_NAMES after
    → (xs : List Read) → xs ++ record { item = item; cases = after } ∷ [] ≡ xs ++ settled_at catalog site records txn outcome item
settled-held catalog site records values are txn outcome item before after at is whole xs =
    let home = held-home catalog site records records values are item before at in
    let value = shown-settled catalog records txn outcome item after whole.canonical (λ a. is.same a ∙ ap (λ (cases : List (Case ℤ)). value_at cases (with_outcome txn outcome a)) home.1) in
    ap (λ (cases : List (Case ℤ)). xs ++ record { item = item; cases = cases } ∷ []) value
    ∙ ap (λ (test : Bool). xs ++ (if test then record { item = item; cases = shown catalog (records ++ outcome_known txn outcome ∷ []) item } ∷ [] else [])) (sym home.0)

pub settled-away : (catalog : Declared) (site : ℕ) (records : List Record) (values : Values) → AreShown catalog site records records values
    → (txn : TxnId) (outcome : Bool) (item : ℕ) → is_held (slice_get values item) ≡ false → (xs : List Read) → xs ≡ xs ++ settled_at catalog site records txn outcome item
settled-away catalog site records values are txn outcome item unheld xs =
    sym (append-nil xs)
    ∙ ap (λ (test : Bool). xs ++ (if test then record { item = item; cases = shown catalog (records ++ outcome_known txn outcome ∷ []) item } ∷ [] else []))
    (sym (unheld-away catalog site records records values are item unheld))

-- Values of which each is what the item is then.

abbrev pub AreThen : (ℕ → List (Case ℤ)) → List Read → Type 0
AreThen then_ reads = All (λ (read : Read). read.cases ≡ then_ read.item) reads

abbrev pub has_item : ℕ → List Read → Bool
has_item item reads = list_any (λ (read : Read). read.item == item) reads

replaced-then : (then_ : ℕ → List (Case ℤ)) (item : ℕ) (reads : List Read) (old : List (Case ℤ)) → AreThen then_ reads → old ≡ then_ item → replaced item reads old ≡ then_ item
replaced-then then_ item [] old each is = is
replaced-then then_ item (read ∷ reads) old each is =
    replaced-then then_ item reads (if read.item == item then read.cases else old)
    (All-tail (λ (read : Read). read.cases ≡ then_ read.item) read reads each)
    (by (read.item == item) refl)
  where
    by : (test : Bool) → (read.item == item) ≡ test → (if test then read.cases else old) ≡ then_ item
    by true same = All-head (λ (read : Read). read.cases ≡ then_ read.item) read reads each ∙ ap then_ (eqb-true read.item item same)
    by false other = is

-- An item that they have is replaced by what it is then, and another isn't.
pub replaced-each : (then_ : ℕ → List (Case ℤ)) (item : ℕ) (reads : List Read) (old : List (Case ℤ)) → AreThen then_ reads → (has_item item reads ≡ false → old ≡ then_ item)
    → replaced item reads old ≡ then_ item
replaced-each then_ item [] old each else_ = else_ refl
replaced-each then_ item (read ∷ reads) old each else_ = by (read.item == item) refl (replaced-each then_ item reads old tail) else_
  where
    tail : AreThen then_ reads
    tail = All-tail (λ (read : Read). read.cases ≡ then_ read.item) read reads each

    by : (test : Bool) → (read.item == item) ≡ test → ((has_item item reads ≡ false → old ≡ then_ item) → replaced item reads old ≡ then_ item)
        → (test || has_item item reads ≡ false → old ≡ then_ item) → replaced item reads (if test then read.cases else old) ≡ then_ item
    by true same rest other =
        replaced-then then_ item reads read.cases tail (All-head (λ (read : Read). read.cases ≡ then_ read.item) read reads each ∙ ap then_ (eqb-true read.item item same))
    by false apart rest other = rest other

settled-names : (catalog : Declared) (records : List Record) (txn : TxnId) (outcome : Bool) (item : ℕ) (t : TxnId)
    → IsTrue (names (shown catalog (records ++ outcome_known txn outcome ∷ []) item) t) → IsTrue (names (shown catalog records item) t)
settled-names catalog records txn outcome item t named =
    let old = shown catalog records item in
    let longer : List Record = records ++ outcome_known txn outcome ∷ [] in
    let new = shown catalog longer item in
    let value : (a : List TxnId) → value_at new a ≡ value_at old (with_outcome txn outcome a) =
    λ a. shown-value catalog longer longer item a ∙ ap Some (value-outcome catalog records txn outcome item a) ∙ sym (shown-value catalog records records item (with_outcome txn outcome a)) in
    depends-named new (names old) (shown-canonical catalog longer longer item)
    (λ a b agree. value a
    ∙ value_at-agree old (with_outcome txn outcome a) (with_outcome txn outcome b) (λ u is. commits-with-alike txn outcome a b u (agree u is))
    ∙ sym (value b)) t named

-- Settling names nothing more.
pub settled-narrow : (catalog : Declared) (records : List Record) (txn : TxnId) (outcome : Bool) (item : ℕ)
    → length (names_of (shown catalog (records ++ outcome_known txn outcome ∷ []) item)) ≤ length (names_of (shown catalog records item))
settled-narrow catalog records txn outcome item =
    let old = shown catalog records item in
    let longer : List Record = records ++ outcome_known txn outcome ∷ [] in
    let new = shown catalog longer item in
    fewer-ascending (names_of new) (names_of old) (names-ascend new)
    (λ t h. names-listed old t (settled-names catalog records txn outcome item t (listed-names new t h)))

pub settled-placed : (catalog : Declared) (records : List Record) (txn : TxnId) (outcome : Bool) (item : ℕ) (t : TxnId)
    → IsTrue (names (shown catalog (records ++ outcome_known txn outcome ∷ []) item) t) → IsTrue (names (shown catalog records item) t)
settled-placed catalog records txn outcome item t named = settled-names catalog records txn outcome item t named

-- Declared values.

of-map : {Y : Type 0} (f : Item → Y) (items : List Item) (place : ℕ) (y : Y) → slice_get (map f items) place ≡ Some y → (declared : Item) × (slice_get items place ≡ Some declared) × (f declared ≡ y)
of-map f [] place y at = absurd (let no : ⊥ = cc in no)
of-map f (item ∷ items) zero y at = (item, refl, some-one _ _ at)
of-map f (item ∷ items) (suc place) y at = of-map f items place y at

pub declared-home : (catalog : Declared) (site item own : ℕ) → slice_get (map (λ (declared : Item). declared.site) catalog.items) item ≡ Some own
    → is_home catalog site item ≡ (own == site)
declared-home catalog site item own at =
    let found = of-map (λ (declared : Item). declared.site) catalog.items item own at in
    ap (is_of_site site) found.1 ∙ ap (λ (n : ℕ). n == site) found.2

pub declared-shown : (catalog : Declared) (item : ℕ) (value : ℤ) → slice_get (map (λ (declared : Item). declared.value) catalog.items) item ≡ Some value
    → (cases : List (Case ℤ)) → IsPolyvalue HELD_NAMES cases → ((a : List TxnId) → value_at cases a ≡ Some value) → cases ≡ shown_within catalog [] [] item
declared-shown catalog item value at cases is values =
    let found = of-map (λ (declared : Item). declared.value) catalog.items item value at in
    shown-only catalog [] [] item cases is.canonical
    (λ a. values a ∙ ap Some (sym (ap declared_or_zero found.1 ∙ found.2)))

-- The changed values of a settling.

all-settled : (catalog : Declared) (site : ℕ) (records : List Record) (txn : TxnId) (outcome : Bool) (items : List ℕ)
    → All (λ (read : Read). IsTrue (is_home catalog site read.item) × (read.cases ≡ shown catalog (records ++ outcome_known txn outcome ∷ []) read.item))
    (flat_map (settled_at catalog site records txn outcome) items)
all-settled catalog site records txn outcome [] = λ k d below. absurd (omega (arith, below))
all-settled catalog site records txn outcome (item ∷ items) = by (is_home catalog site item) refl (all-settled catalog site records txn outcome items)
  where
    P : Read → Type 0
    P read = IsTrue (is_home catalog site read.item) × (read.cases ≡ shown catalog (records ++ outcome_known txn outcome ∷ []) read.item)

    by : (test : Bool) → is_home catalog site item ≡ test → All P (flat_map (settled_at catalog site records txn outcome) items)
        → All P ((if test then record { item = item; cases = shown catalog (records ++ outcome_known txn outcome ∷ []) item } ∷ [] else []) ++ flat_map (settled_at catalog site records txn outcome) items)
    by true home rest = All-cons P (record { item = item; cases = shown catalog (records ++ outcome_known txn outcome ∷ []) item }) _ (home, refl) rest
    by false away rest = rest

has-settled : (catalog : Declared) (site : ℕ) (records : List Record) (txn : TxnId) (outcome : Bool) (items : List ℕ) (item : ℕ) → IsTrue (is_home catalog site item)
    → list_any (λ other. item == other) items ≡ true → has_item item (flat_map (settled_at catalog site records txn outcome) items) ≡ true
has-settled catalog site records txn outcome [] item home is = absurd (false≢true is)
has-settled catalog site records txn outcome (first ∷ items) item home is =
    ⊎_elim
    (λ same. let equal : item ≡ first = eqb-true item first same in
    subst (λ (n : ℕ). has_item item ((if is_home catalog site n then record { item = n; cases = shown catalog (records ++ outcome_known txn outcome ∷ []) n } ∷ [] else [])
    ++ flat_map (settled_at catalog site records txn outcome) items) ≡ true) equal
    (ap (λ (test : Bool). has_item item ((if test then record { item = item; cases = shown catalog (records ++ outcome_known txn outcome ∷ []) item } ∷ [] else [])
    ++ flat_map (settled_at catalog site records txn outcome) items)) home
    ∙ or_left (item == item) _ (eq-eqb item item refl)))
    (λ rest. any-behind item (settled_at catalog site records txn outcome first) (flat_map (settled_at catalog site records txn outcome) items)
    (has-settled catalog site records txn outcome items item home rest))
    (or_cases (item == first) (list_any (λ other. item == other) items) is)
  where
    any-behind : (item : ℕ) (front back : List Read) → has_item item back ≡ true → has_item item (front ++ back) ≡ true
    any-behind item [] back is = is
    any-behind item (read ∷ front) back is = or_right (read.item == item) (has_item item (front ++ back)) (any-behind item front back is)

-- The change that settles a transaction's values is planned.
pub planned-settle : (kept : Kept) (values : Values) → AreShown kept.catalog kept.site kept.records kept.records values → ArePlaced kept.catalog kept.site kept.records kept.records kept.room.places
    → (txn : TxnId) (outcome : Bool) (items : List ℕ)
    → ((item : ℕ) → IsTrue (is_home kept.catalog kept.site item) → IsTrue (names (shown kept.catalog kept.records item) txn) → list_any (λ other. item == other) items ≡ true) → 0 < kept.room.outcomes
    → IsPlannedOn kept (record { appended = outcome_known txn outcome; values = flat_map (settled_at kept.catalog kept.site kept.records txn outcome) items })
planned-settle kept values are placed txn outcome items found room = record {
  here = All-weaker (λ (read : Read). IsTrue (is_home kept.catalog kept.site read.item) × (read.cases ≡ then_ read.item)) (λ (read : Read). IsTrue (is_home kept.catalog kept.site read.item))
      (λ read is. is.0) reads each;
  shown_then = λ item home. sym (replaced-each then_ item reads (shown kept.catalog kept.records item)
      (All-weaker (λ (read : Read). IsTrue (is_home kept.catalog kept.site read.item) × (read.cases ≡ then_ read.item)) (λ (read : Read). read.cases ≡ then_ read.item) (λ read is. is.1) reads each)
      (λ absent. sym (shown-unnamed kept.catalog kept.records txn outcome item (unnamed item home absent))));
  narrow = λ item home. omega (arith, settled-narrow kept.catalog kept.records txn outcome item, are.narrow item home);
  placed = λ item t home named. placed item t home (settled-placed kept.catalog kept.records txn outcome item t named);
  told = All-weaker (λ (read : Read). IsTrue (is_home kept.catalog kept.site read.item) × (read.cases ≡ then_ read.item))
      (λ (read : Read). (t : TxnId) → IsTrue (names read.cases t) → has_place kept.room.places t read.item ≡ true)
      (λ read is t named. placed read.item t is.0 (settled-placed kept.catalog kept.records txn outcome read.item t (subst (λ (cases : List (Case ℤ)). IsTrue (names cases t)) is.1 named)))
      reads each;
  room = room;
} where
  reads : List Read
  reads = flat_map (settled_at kept.catalog kept.site kept.records txn outcome) items

  then_ : ℕ → List (Case ℤ)
  then_ item = shown kept.catalog (kept.records ++ outcome_known txn outcome ∷ []) item

  each : All (λ (read : Read). IsTrue (is_home kept.catalog kept.site read.item) × (read.cases ≡ then_ read.item)) reads
  each = all-settled kept.catalog kept.site kept.records txn outcome items

  unnamed : (item : ℕ) → IsTrue (is_home kept.catalog kept.site item) → has_item item reads ≡ false → names (shown kept.catalog kept.records item) txn ≡ false
  unnamed item home absent = by (names (shown kept.catalog kept.records item) txn) refl where
    by : (test : Bool) → names (shown kept.catalog kept.records item) txn ≡ test → test ≡ false
    by true named = absurd (false≢true (sym absent ∙ has-settled kept.catalog kept.site kept.records txn outcome items item home (found item home named)))
    by false not-named = refl
