-- Where the items stand whose values name a transaction.
use Rattle.std.proofs.Common.{◌≡◌, ◌∙◌, ℕ, ℤ, ◌<◌, ◌+◌, ◌==◌, ◌||◌, ◌&&◌, not, Bool, true, false, Some, None, Option, List, [], ◌∷◌, ◌++◌, length, take, get_or, refl, sym, ap, subst, arith}
use Rattle.std.specs.Prelude.{slice_get, is_none, if◌then◌else◌, IsTrue}
use Rattle.std.specs.List.{list_any}
use Rattle.std.proofs.Math.ListN.{set}
use Rattle.std.proofs.lemmas.Bool.{and_parts, false≢true, or_left, eqb-true, eqb-false, eq-eqb}
use Rattle.std.proofs.lemmas.Bool.Decides.{nat_tests}
use Rattle.std.proofs.lemmas.List.Elements.{All-contains}
use Rattle.std.proofs.lemmas.List.Folds.{list_any_more}
use Rattle.pv_base.proofs.AssignmentLemmas.{same-eq, same-refl}
use Rattle.pv_base.proofs.ContainsLemmas.{Contains-nil}
use Rattle.pv_base.specs.Assignment.{is_same_txn}
use Rattle.pv_base.specs.Catalog.{Declared}
use Rattle.pv_base.specs.declared.catalog.ItemId.{ItemId}
use Rattle.pv_base.specs.declared.txn.TxnId.{TxnId}
use Rattle.pv_base.specs.Polyvalue.{AreNames, Case, names}
use Rattle.pv_cases.proofs.SureCases.{one-case-is}
use Rattle.pv_cases.specs.Sure.{is_one_case}
use Rattle.pv_format.specs.Record.{Record}
use Rattle.pv_law_step.proofs.HomeLemmas.{items-home}
use Rattle.pv_law_step.proofs.ShownLemmas.{shown-names, shown-undecided}
use Rattle.pv_law_values.proofs.RecordsMore.{known-more}
use Rattle.pv_protocol.specs.Here.{Here}
use Rattle.pv_protocol.specs.Lock.{is_home}
use Rattle.pv_protocol.specs.Outcome.{is_named_here, items_here}
use Rattle.pv_protocol.specs.Records.{known}
use Rattle.pv_protocol.specs.Shown.{shown, shown_within}
use Rattle.pv_store.specs.Held.{AreShown, AreTouched, Values, does_name}
use Rattle.pv_store.specs.Kept.{IsStoreOf, Kept, Places, has_place}
use Rattle.pv_store.specs.StandingHere.{is_one_of}
use Rattle.pv_store.specs.Writes.{is_held}
use Rattle.pv_store.proofs.HeldLemmas.{set-other, set-same, shown-at}
use Rattle.pv_store.proofs.MentionLemmas.{any-has, both-ways, has-any, home-listed}
use Rattle.pv_store.proofs.NoteLemmas.{none-told}
use Rattle.pv_store.proofs.SettlingLemmas.{held-home}

-- A transaction is among the names of cases where they name it.
pub names-any : (cases : List (Case ℤ)) (txns : List TxnId) → AreNames cases txns → (txn : TxnId) → list_any (is_same_txn txn) txns ≡ names cases txn
names-any cases txns are txn =
    both-ways (list_any (is_same_txn txn) txns) (names cases txn)
    (λ is.
    let one = any-has (is_same_txn txn) txns is in
    ap (names cases) (same-eq {t = txn} {u = one.0} one.2) ∙ All-contains (λ (t : TxnId). IsTrue (names cases t)) txns one.0 are.each one.1)
    (λ named. has-any (is_same_txn txn) txns txn (are.whole txn named) (same-refl txn))

-- A value of one case that is always met names nothing.
pub sure-names : (cases : List (Case ℤ)) (txns : List TxnId) → is_one_case cases ≡ true → txns ≡ [] → AreNames cases txns
sure-names cases txns sure none =
    subst (AreNames cases) (sym none) (record {
      ascending = λ i j d before within. absurd (omega (arith, within));
      each = λ k d below. absurd (omega (arith, below));
      whole = λ txn named. absurd (false≢true (sym (ap (λ (all : List (Case ℤ)). names all txn) (one-case-is cases sure).1) ∙ named));
    })

-- What names a transaction is a value.
pub named-held : (value : Option (Option (List (Case ℤ)))) (txn : TxnId) → does_name value txn ≡ true → (cases : List (Case ℤ)) × (value ≡ Some (Some cases)) × (names cases txn ≡ true)
named-held (Some (Some cases)) txn is = (cases, refl, is)
named-held (Some None) txn is = absurd (false≢true is)
named-held None txn is = absurd (false≢true is)

pub unheld-names : (value : Option (Option (List (Case ℤ)))) (txn : TxnId) → is_held value ≡ false → does_name value txn ≡ false
unheld-names (Some (Some cases)) txn is = absurd (false≢true (sym is))
unheld-names (Some None) txn is = refl
unheld-names None txn is = refl

-- The item's value leaves the transactions that it names, one after another.

leave-by : (same here so-far had : Bool) → (if same then not here && (not (here && so-far) && had) else not (here && so-far) && had) ≡ (not (here && (so-far || same)) && had)
leave-by true true true had = refl
leave-by true true false had = refl
leave-by true false so-far had = refl
leave-by false true true had = refl
leave-by false true false had = refl
leave-by false false so-far had = refl

touch-by : (same here so-far had : Bool) → (if same then here || ((here && so-far) || had) else (here && so-far) || had) ≡ ((here && (so-far || same)) || had)
touch-by true true true had = refl
touch-by true true false had = refl
touch-by true false so-far had = refl
touch-by false true true had = refl
touch-by false true false had = refl
touch-by false false so-far had = refl

module _ (txns : List TxnId) (i : ℕ) (d : TxnId) (within : i < length txns) (item : ℕ) (first old new : Places) where
  pub leave-next : ((other : TxnId) (there : ℕ) → has_place old other there ≡ (not (there == item && list_any (is_same_txn other) (take i txns)) && has_place first other there))
      → ((other : TxnId) (there : ℕ) → has_place new other there ≡ (if is_same_txn other (get_or txns i d) then not (there == item) && has_place old other there else has_place old other there))
      → (other : TxnId) (there : ℕ) → has_place new other there ≡ (not (there == item && list_any (is_same_txn other) (take (i + 1) txns)) && has_place first other there)
  leave-next so next other there =
      next other there
      ∙ ap (λ (had : Bool). if is_same_txn other (get_or txns i d) then not (there == item) && had else had) (so other there)
      ∙ leave-by (is_same_txn other (get_or txns i d)) (there == item) (list_any (is_same_txn other) (take i txns)) (has_place first other there)
      ∙ ap (λ (among : Bool). not (there == item && among) && has_place first other there) (sym (list_any_more (is_same_txn other) txns i d within))

  pub touch-next : ((other : TxnId) (there : ℕ) → has_place old other there ≡ ((there == item && list_any (is_same_txn other) (take i txns)) || has_place first other there))
      → ((other : TxnId) (there : ℕ) → has_place new other there ≡ (if is_same_txn other (get_or txns i d) then there == item || has_place old other there else has_place old other there))
      → (other : TxnId) (there : ℕ) → has_place new other there ≡ ((there == item && list_any (is_same_txn other) (take (i + 1) txns)) || has_place first other there)
  touch-next so next other there =
      next other there
      ∙ ap (λ (had : Bool). if is_same_txn other (get_or txns i d) then there == item || had else had) (so other there)
      ∙ touch-by (is_same_txn other (get_or txns i d)) (there == item) (list_any (is_same_txn other) (take i txns)) (has_place first other there)
      ∙ ap (λ (among : Bool). (there == item && among) || has_place first other there) (sym (list_any_more (is_same_txn other) txns i d within))

-- Then it stands nowhere.
pub left-old : (values : Values) (before after : Places) (item : ℕ) (cases : List (Case ℤ)) (txns : List TxnId) → slice_get values item ≡ Some (Some cases) → AreNames cases txns → AreTouched values before
    → ((other : TxnId) (there : ℕ) → has_place after other there ≡ (not (there == item && list_any (is_same_txn other) txns) && has_place before other there))
    → (other : TxnId) (there : ℕ) → has_place after other there ≡ (not (there == item) && has_place before other there)
left-old values before after item cases txns held are touched left other there = left other there ∙ by (there == item) refl
  where
    nothing : (b : Bool) → (not b && b) ≡ false
    nothing true = refl
    nothing false = refl

    by : (test : Bool) → (there == item) ≡ test → (not (test && list_any (is_same_txn other) txns) && has_place before other there) ≡ (not test && has_place before other there)
    by true same =
        ap (λ (had : Bool). not (list_any (is_same_txn other) txns) && had)
        (touched there other
        ∙ ap (λ (n : ℕ). does_name (slice_get values n) other) (eqb-true there item same)
        ∙ ap (λ value. does_name value other) held
        ∙ sym (names-any cases txns are other))
        ∙ nothing (list_any (is_same_txn other) txns)
    by false apart = refl

pub left-none : (values : Values) (places : Places) (item : ℕ) → is_held (slice_get values item) ≡ false → AreTouched values places
    → (other : TxnId) (there : ℕ) → has_place places other there ≡ (not (there == item) && has_place places other there)
left-none values places item unheld touched other there = by (there == item) refl
  where
    by : (test : Bool) → (there == item) ≡ test → has_place places other there ≡ (not test && has_place places other there)
    by true same =
        touched there other
        ∙ ap (λ (n : ℕ). does_name (slice_get values n) other) (eqb-true there item same)
        ∙ unheld-names (slice_get values item) other unheld
    by false apart = refl

or-nothing : (b : Bool) → (b || false) ≡ b
or-nothing true = refl
or-nothing false = refl

-- With a new value in its place, the item stands at the transactions that this one names.
pub put-touched : (values : Values) (item : ℕ) (cases : List (Case ℤ)) (txns : List TxnId) → item < length values → AreNames cases txns → (first before after : Places) → AreTouched values first
    → ((other : TxnId) (there : ℕ) → has_place before other there ≡ (not (there == item) && has_place first other there))
    → ((other : TxnId) (there : ℕ) → has_place after other there ≡ ((there == item && list_any (is_same_txn other) txns) || has_place before other there))
    → AreTouched (set values item (Some cases)) after
put-touched values item cases txns within are first before after touched left put there txn =
    put txn there ∙ ap (λ (had : Bool). (there == item && list_any (is_same_txn txn) txns) || had) (left txn there) ∙ by (there == item) refl
  where
    by : (test : Bool) → (there == item) ≡ test
        → ((test && list_any (is_same_txn txn) txns) || (not test && has_place first txn there)) ≡ does_name (slice_get (set values item (Some cases)) there) txn
    by true same =
        or-nothing (list_any (is_same_txn txn) txns)
        ∙ names-any cases txns are txn
        ∙ sym (ap (λ value. does_name value txn) (ap (slice_get (set values item (Some cases))) (eqb-true there item same) ∙ set-same values item (Some cases) within))
    by false apart =
        touched there txn
        ∙ sym (ap (λ value. does_name value txn) (set-other values item (Some cases) there (λ equal. eqb-false there item apart (sym equal))))

module _ (catalog : Declared) (site : ℕ) (records front : List Record) (values : Values) (are : AreShown catalog site records front values) where
  -- A value that names a transaction is that of an item of the site, as it is shown.
  pub names-home : (item : ℕ) (txn : TxnId) → does_name (slice_get values item) txn ≡ true → IsTrue (is_home catalog site item) × IsTrue (names (shown_within catalog records front item) txn)
  names-home item txn is =
      let held = named-held (slice_get values item) txn is in
      let home = held-home catalog site records front values are item held.0 held.1 in
      (home.0, ap (λ (cases : List (Case ℤ)). names cases txn) (sym home.1) ∙ held.2)

  pub home-names : (item : ℕ) (txn : TxnId) → IsTrue (is_home catalog site item) → does_name (slice_get values item) txn ≡ names (shown_within catalog records front item) txn
  home-names item txn home = ap (λ value. does_name value txn) (shown-at catalog site records front values are item home)

  pub names-shown : (item : ℕ) (txn : TxnId) → does_name (slice_get values item) txn ≡ (is_home catalog site item && names (shown_within catalog records front item) txn)
  names-shown item txn = by (is_home catalog site item) refl
    where
      away-by : is_home catalog site item ≡ false → (test : Bool) → does_name (slice_get values item) txn ≡ test → test ≡ false
      away-by away true is = absurd (false≢true (sym away ∙ (names-home item txn is).0))
      away-by away false is = refl

      by : (test : Bool) → is_home catalog site item ≡ test → does_name (slice_get values item) txn ≡ (test && names (shown_within catalog records front item) txn)
      by true home = home-names item txn home
      by false away = away-by away (does_name (slice_get values item) txn) refl

-- Without records, nothing is named.
pub declared-touched : (catalog : Declared) (site : ℕ) (values : Values) → AreShown catalog site [] [] values → AreTouched values []
declared-touched catalog site values are item txn = by (does_name (slice_get values item) txn) refl
  where
    by : (test : Bool) → does_name (slice_get values item) txn ≡ test → false ≡ test
    by true is = absurd (Contains-nil txn (shown-names catalog [] [] item txn (names-home catalog site [] [] values are item txn is).1))
    by false is = refl

and-nothing : (b : Bool) → (b && false) ≡ false
and-nothing true = refl
and-nothing false = refl

-- No value names the transaction of a record that tells an outcome, so what stood there may go.
pub noted-touched : (catalog : Declared) (site : ℕ) (records : List Record) (more : Record) (values : Values) → AreShown catalog site (records ++ more ∷ []) (records ++ more ∷ []) values
    → (before after : Places) → AreTouched values before
    → ((txn : TxnId) (item : ℕ) → has_place after txn item ≡ (is_none (known (more ∷ []) txn) && has_place before txn item)) → AreTouched values after
noted-touched catalog site records more values are before after touched noted item txn =
    noted txn item ∙ ap (λ (had : Bool). is_none (known (more ∷ []) txn) && had) (touched item txn) ∙ by (does_name (slice_get values item) txn) refl
  where
    by : (test : Bool) → does_name (slice_get values item) txn ≡ test → (is_none (known (more ∷ []) txn) && test) ≡ test
    by true is =
        let longer : List Record = records ++ more ∷ [] in
        let named = (names-home catalog site longer longer values are item txn is).1 in
        ap (λ (told : Option Bool). is_none told && true)
        (none-told (known records txn) (known (more ∷ []) txn) (ap is_none (sym (known-more records more txn)) ∙ shown-undecided catalog longer longer item txn named))
    by false is = and-nothing (is_none (known (more ∷ []) txn))

-- A transaction is named where an item stands there.
module _ (here : Here) (txn : TxnId) where
  abbrev is_shown : ℕ → Bool
  is_shown item = names (shown here.setup.catalog here.records item) txn

  abbrev AreShownOnes : List ItemId → Type 0
  AreShownOnes items = (item : ℕ) → is_one_of item items ≡ (is_home here.setup.catalog here.me item && is_shown item)

  to-shown : (items : List ItemId) → AreShownOnes items → not (length items == 0) ≡ true → list_any is_shown (items_here here) ≡ true
  to-shown [] found is = absurd (false≢true is)
  to-shown (item ∷ items) found is =
      let both = and_parts (is_home here.setup.catalog here.me item.0) (is_shown item.0) (sym (found item.0) ∙ or_left (item.0 == item.0) (is_one_of item.0 items) (eq-eqb item.0 item.0 refl)) in
      has-any is_shown (items_here here) item.0 (home-listed here item.0 both.0)
      both.1

  from-shown : (items : List ItemId) → AreShownOnes items → list_any is_shown (items_here here) ≡ true → not (length items == 0) ≡ true
  from-shown [] found is =
      let one = any-has is_shown (items_here here) is in
      absurd (false≢true (found one.0 ∙ ap (λ (test : Bool). test && is_shown one.0) (items-home here one.0 one.1) ∙ one.2))
  from-shown (item ∷ items) found is = grind (arith, nat_tests)

  named-where : (items : List ItemId) → AreShownOnes items → not (length items == 0) ≡ is_named_here here txn
  unfolding is_named_here
  named-where items found = both-ways (not (length items == 0)) (is_named_here here txn) (to-shown items found) (from-shown items found)

  pub named-is : (kept : Kept) → IsStoreOf here kept → (items : List ItemId)
      → ((item : ℕ) → is_one_of item items ≡ (is_home kept.catalog kept.site item && names (shown kept.catalog kept.records item) txn)) → not (length items == 0) ≡ is_named_here here txn
  named-is kept of items found =
      named-where items (λ item.
      found item
      ∙ ap (λ (catalog : Declared). is_home catalog kept.site item && names (shown catalog kept.records item) txn) of.catalog
      ∙ ap (λ (site : ℕ). is_home here.setup.catalog site item && names (shown here.setup.catalog kept.records item) txn) of.site
      ∙ ap (λ (records : List Record). is_home here.setup.catalog here.me item && names (shown here.setup.catalog records item) txn) of.records)
