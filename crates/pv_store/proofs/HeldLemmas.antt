-- What a store holds, one item or transaction at a time.
use Rattle.std.proofs.Common.{◌≡◌, ◌∙◌, zero, suc, ℕ, ℤ, ◌<◌, ◌≤◌, Bool, true, false, Some, None, Option, List, [], ◌∷◌, ◌++◌, ◌==◌, length, length-set, All, get_or, refl, sym, ap, subst, arith}
use Rattle.std.specs.Prelude.{slice_get, is_none, if◌then◌else◌, IsTrue}
use Rattle.std.specs.Option.{option_map}
use Rattle.std.proofs.Math.ListN.{set}
use Rattle.std.proofs.lemmas.Bool.{false≢true, eqb-true, eqb-false, ne_eqb}
use Rattle.std.proofs.lemmas.Option.{slice_get_within, slice_get-get_or}
use Rattle.std.proofs.lemmas.List.Elements.{All-head, All-tail, All-weaker}
use Rattle.pv_base.specs.Catalog.{Item, Declared}
use Rattle.pv_base.specs.declared.txn.TxnId.{TxnId}
use Rattle.pv_base.specs.declared.limits.TheConstants.{HELD_NAMES}
use Rattle.pv_base.specs.Named.{names_of}
use Rattle.pv_base.specs.Polyvalue.{Case, names}
use Rattle.pv_format.specs.Record.{Record}
use Rattle.pv_law_values.proofs.RecordsMore.{known-more}
use Rattle.pv_law_step.proofs.ShownLemmas.{shown-undecided}
use Rattle.pv_protocol.specs.Records.{known}
use Rattle.pv_model.specs.Alternatives.{Read}
use Rattle.pv_protocol.specs.Lock.{is_of_site, is_home}
use Rattle.pv_protocol.specs.Shown.{shown_within}
use Rattle.pv_store.specs.Held.{Values, AreShown, ArePlaced, replaced_at}
use Rattle.pv_store.specs.Kept.{Kept, Places, Planned, IsPlannedOn, has_place, replaced}
use Rattle.pv_store.proofs.NoteLemmas.{none-told}

home-by : (site item : ℕ) (items : List Item) (found : Option Item) → slice_get items item ≡ found → IsTrue (is_of_site site found) → item < length items
home-by site item items (Some declared) is home = slice_get_within items item declared is
home-by site item items None is home = absurd (false≢true home)

-- An item of the site is declared.
pub home-declared : (catalog : Declared) (site item : ℕ) → IsTrue (is_home catalog site item) → item < length catalog.items
home-declared catalog site item home = home-by site item catalog.items (slice_get catalog.items item) refl home

-- The value at an item of the site.
pub shown-at : (catalog : Declared) (site : ℕ) (records front : List Record) (values : Values) → AreShown catalog site records front values
    → (item : ℕ) → IsTrue (is_home catalog site item) → slice_get values item ≡ Some (Some (shown_within catalog records front item))
shown-at catalog site records front values are item home =
    are.each item (home-declared catalog site item home)
    ∙ ap (λ (test : Bool). Some (if test then Some (shown_within catalog records front item) else None)) home

pub some-some : {X : Type 0} (x y : X) → Some (Some x) ≡ Some (Some y) → x ≡ y
some-some x y e = cc

-- Putting values over one that there is gives one.
pub replaced_at-some : (item : ℕ) (reads : List Read) (cases : List (Case ℤ)) → replaced_at item reads (Some cases) ≡ Some (replaced item reads cases)
replaced_at-some item [] cases = refl
replaced_at-some item (read ∷ reads) cases =
    ap (replaced_at item reads) (some-if (read.item == item) read.cases cases)
    ∙ replaced_at-some item reads (if read.item == item then read.cases else cases)
  where
    some-if : (test : Bool) (new old : List (Case ℤ)) → (if test then Some new else Some old) ≡ Some (if test then new else old)
    some-if true new old = refl
    some-if false new old = refl

-- One element is put in place of another.
pub set-same : {X : Type 0} (xs : List X) (i : ℕ) (x : X) → i < length xs → slice_get (set xs i x) i ≡ Some x
set-same [] i x within = absurd (omega (arith, within))
set-same (y ∷ ys) zero x within = refl
set-same (y ∷ ys) (suc i) x within = set-same ys i x (omega (arith, within))

pub set-other : {X : Type 0} (xs : List X) (i : ℕ) (x : X) (k : ℕ) → (i ≡ k → ⊥) → slice_get (set xs i x) k ≡ slice_get xs k
set-other [] i x k apart = refl
set-other (y ∷ ys) zero x zero apart = absurd (apart refl)
set-other (y ∷ ys) zero x (suc k) apart = refl
set-other (y ∷ ys) (suc i) x zero apart = refl
set-other (y ∷ ys) (suc i) x (suc k) apart = set-other ys i x k (λ e. apart (ap suc e))

some-there : {X : Type 0} (xs : List X) (i k : ℕ) → i ≡ k → i < length xs → (x : X) × (slice_get xs k ≡ Some x)
some-there [] i k e within = absurd (omega (arith, within))
some-there (x ∷ xs) i k e within = (get_or (x ∷ xs) k x, slice_get-get_or (x ∷ xs) k x (omega (arith, within, e)))

-- Putting one more value over values is putting it before the rest.
module _ (values : Values) (read : Read) (rest : List Read) (item : ℕ) (within : read.item < length values) where
  abbrev put : Bool → Option (List (Case ℤ)) → Option (List (Case ℤ))
  put test old = replaced_at item rest (if test then Some read.cases else old)

  put-by : (test : Bool) → (read.item == item) ≡ test
      → option_map (replaced_at item rest) (slice_get (set values read.item (Some read.cases)) item) ≡ option_map (put (read.item == item)) (slice_get values item)
  put-by true same =
      let equal : read.item ≡ item = eqb-true read.item item same in
      let there = some-there values read.item item equal within in
      ap (option_map (replaced_at item rest)) (subst (λ k. slice_get (set values read.item (Some read.cases)) k ≡ Some (Some read.cases)) equal (set-same values read.item (Some read.cases) within))
      ∙ sym (ap (option_map (put (read.item == item))) there.1 ∙ ap (λ (test : Bool). Some (put test there.0)) same)
  put-by false other =
      ap (option_map (replaced_at item rest)) (set-other values read.item (Some read.cases) item (eqb-false read.item item other))
      ∙ ap (λ (test : Bool). option_map (put test) (slice_get values item)) (sym other)

  pub put-step : option_map (replaced_at item rest) (slice_get (set values read.item (Some read.cases)) item) ≡ option_map (replaced_at item (read ∷ rest)) (slice_get values item)
  put-step = put-by (read.item == item) refl

-- Where other records show the same, what is held is right for them too.
pub shown-again : (catalog : Declared) (site : ℕ) (records front others back : List Record) (values : Values)
    → ((item : ℕ) → shown_within catalog others back item ≡ shown_within catalog records front item)
    → AreShown catalog site records front values → AreShown catalog site others back values
shown-again catalog site records front others back values same are = record {
  all = are.all;
  each = λ item within. are.each item within
      ∙ ap (λ cases. Some (if is_home catalog site item then Some cases else None)) (sym (same item));
  narrow = λ item home. subst (λ cases. length (names_of cases) ≤ HELD_NAMES) (sym (same item)) (are.narrow item home);
}

pub placed-again : (catalog : Declared) (site : ℕ) (records front others back : List Record) (places : Places)
    → ((item : ℕ) → shown_within catalog others back item ≡ shown_within catalog records front item)
    → ArePlaced catalog site records front places → ArePlaced catalog site others back places
placed-again catalog site records front others back places same are item txn home named =
    are item txn home (subst (λ cases. IsTrue (names cases txn)) (same item) named)

-- What is left of the new values, put over the values so far, is all of it put over the first ones.
pub record Puts (all : List Read) (first : Values) (rest : List Read) (values : Values) : Type 0 where
  pub within : All (λ (read : Read). read.item < length values) rest
  pub same : (item : ℕ) → option_map (replaced_at item rest) (slice_get values item) ≡ option_map (replaced_at item all) (slice_get first item)

pub puts-step : (all : List Read) (first : Values) (before rest : List Read) (values : Values) (read put : Read) → before ≡ read ∷ rest → put ≡ read
    → Puts all first before values → Puts all first rest (set values put.item (Some put.cases))
puts-step all first before rest values read put taken is so =
    let within = subst (λ (reads : List Read). All (λ (read : Read). read.item < length values) reads) taken so.within in
    subst (λ (one : Read). Puts all first rest (set values one.item (Some one.cases))) (sym is)
    (record {
      within = All-weaker (λ (other : Read). other.item < length values) (λ (other : Read). other.item < length (set values read.item (Some read.cases)))
          (λ other below. omega (arith, below, length-set values read.item (Some read.cases))) rest (All-tail (λ (read : Read). read.item < length values) read rest within);
      same = λ item. put-step values read rest item (All-head (λ (read : Read). read.item < length values) read rest within)
          ∙ ap (λ (reads : List Read). option_map (replaced_at item reads) (slice_get values item)) (sym taken)
          ∙ so.same item;
    })

-- Applying a change.

pub not-home : (catalog : Declared) (site item : ℕ) (reads : List Read) → All (λ (read : Read). IsTrue (is_home catalog site read.item)) reads → is_home catalog site item ≡ false
    → replaced_at item reads None ≡ None
not-home catalog site item [] here away = refl
not-home catalog site item (read ∷ reads) here away =
    ap (λ (test : Bool). replaced_at item reads (if test then Some read.cases else None))
    (ne_eqb read.item item (λ same. false≢true (sym away ∙ ap (is_home catalog site) (sym same)
    ∙ All-head (λ (read : Read). IsTrue (is_home catalog site read.item)) read reads here)))
    ∙ not-home catalog site item reads (All-tail (λ (read : Read). IsTrue (is_home catalog site read.item)) read reads here) away

module _ (kept : Kept) (change : Planned) (planned : IsPlannedOn kept change) where
  abbrev records : List Record
  records = kept.records

  abbrev longer : List Record
  longer = kept.records ++ change.appended ∷ []

  replaced-by : (item : ℕ) (test : Bool) → is_home kept.catalog kept.site item ≡ test
      → replaced_at item change.values (if test then Some (shown_within kept.catalog records records item) else None)
      ≡ (if test then Some (shown_within kept.catalog longer longer item) else None)
  replaced-by item true home = replaced_at-some item change.values (shown_within kept.catalog records records item) ∙ ap Some (sym (planned.shown_then item home))
  replaced-by item false away = not-home kept.catalog kept.site item change.values planned.here away

  pub applied-values : (values put : Values) → AreShown kept.catalog kept.site records records values
      → ((item : ℕ) → slice_get put item ≡ option_map (λ old. replaced_at item change.values old) (slice_get values item)) → length put ≡ length values
      → AreShown kept.catalog kept.site longer longer put
  applied-values values put are puts same = record {
    all = same ∙ are.all;
    each = λ item within. puts item ∙ ap (option_map (λ old. replaced_at item change.values old)) (are.each item within)
        ∙ ap Some (replaced-by item (is_home kept.catalog kept.site item) refl);
    narrow = planned.narrow;
  }

  pub applied-places : (places : Places) → ((txn : TxnId) (item : ℕ) → known (change.appended ∷ []) txn ≡ None → has_place kept.room.places txn item ≡ true → has_place places txn item ≡ true)
      → ArePlaced kept.catalog kept.site longer longer places
  applied-places places keeps item txn home named =
      keeps txn item
      (none-told (known records txn) (known (change.appended ∷ []) txn)
      (ap is_none (sym (known-more records change.appended txn)) ∙ shown-undecided kept.catalog longer longer item txn named))
      (planned.placed item txn home named)
