-- A promise is refused exactly where a write would make its item's value too wide at the running site.
use Rattle.std.proofs.Common.{◌≡◌, ◌∙◌, ⊎_elim, ℕ, ◌≤◌, Bool, true, false, Some, None, Option, List, [], ◌∷◌, ◌++◌, ◌||◌, length, All, refl, sym, ap, ap₂, subst}
use Rattle.std.specs.Prelude.{Result, Ok, Err, IfSome, nat_lt, if◌then◌else◌, IsTrue}
use Rattle.std.specs.List.{Contains, list_any}
use Rattle.std.specs.Option.{option_or}
use Rattle.std.proofs.lemmas.Bool.{le-ltb}
use Rattle.std.proofs.lemmas.List.Elements.{All-head, All-tail}
use Rattle.std.proofs.lemmas.Option.{none-some}
use Rattle.pv_base.proofs.ContainsLemmas.{Contains-behind, Contains-first}
use Rattle.pv_base.specs.Catalog.{Declared}
use Rattle.pv_base.specs.declared.limits.TheConstants.{HELD_NAMES}
use Rattle.pv_base.specs.declared.txn.TxnId.{TxnId}
use Rattle.pv_base.specs.Named.{names_of}
use Rattle.pv_format.specs.Record.{Record, prepared}
use Rattle.pv_law_values.proofs.ShownMore.{shown-promise, within-unwritten}
use Rattle.pv_law_step.proofs.HomeLemmas.{items-home}
use Rattle.pv_model.specs.Alternatives.{Read}
use Rattle.pv_protocol.specs.Here.{Here}
use Rattle.pv_protocol.specs.Lock.{is_home}
use Rattle.pv_protocol.specs.Shown.{shown}
use Rattle.pv_protocol.specs.Vote.{would_be_wide}
use Rattle.pv_store.specs.declared.error.StoreError.{StoreError}
use Rattle.pv_store.specs.Kept.{IsStoreOf, Kept}
use Rattle.pv_store.specs.Refusals.{AnswersFor, ReportsWide, count_of, first_too_many, if_too_many, site_items, too_many_with, width}
use Rattle.pv_store.proofs.MentionLemmas.{has-any, home-listed-in}
use Rattle.pv_store.proofs.PlanLemmas.{item-of, none-of-count, written-item}

-- The count is that of one of the items.
count-found : (catalog : Declared) (records front : List Record) (items : List ℕ) (count : ℕ) → first_too_many catalog records front items ≡ Some count
    → (item : ℕ) × Contains items item × (if_too_many (width catalog records front item) ≡ Some count)
count-found catalog records front [] count is = absurd (none-some count is)
count-found catalog records front (item ∷ items) count is = by (if_too_many (width catalog records front item)) refl is (count-found catalog records front items count)
  where
    by : (own : Option ℕ) → if_too_many (width catalog records front item) ≡ own → option_or own (first_too_many catalog records front items) ≡ Some count
        → (first_too_many catalog records front items ≡ Some count → (other : ℕ) × Contains items other × (if_too_many (width catalog records front other) ≡ Some count))
        → (other : ℕ) × Contains (item ∷ items) other × (if_too_many (width catalog records front other) ≡ Some count)
    by None none all rest = let found = rest all in (found.0, Contains-behind item items found.0 found.1, found.2)
    by (Some n) own all rest = (item, Contains-first item items, own ∙ all)

wide-none : (count : ℕ) → if_too_many count ≡ None → nat_lt HELD_NAMES count ≡ false
wide-none count none = by (nat_lt HELD_NAMES count) none
  where
    by : (test : Bool) → (if test then Some count else None) ≡ None → test ≡ false
    by true e = absurd (none-some count (sym e))
    by false e = refl

wide-some : (count many : ℕ) → if_too_many count ≡ Some many → nat_lt HELD_NAMES count ≡ true
wide-some count many some = by (nat_lt HELD_NAMES count) some
  where
    by : (test : Bool) → (if test then Some count else None) ≡ Some many → test ≡ true
    by true e = refl
    by false e = absurd (none-some many e)

module _ (kept : Kept) (narrow : (item : ℕ) → IsTrue (is_home kept.catalog kept.site item) → length (names_of (shown kept.catalog kept.records item)) ≤ HELD_NAMES)
    (here : Here) (of : IsStoreOf here kept) (limit : here.setup.held_names ≡ HELD_NAMES) (txn : TxnId) (writes : List Read) where
  abbrev longer : List Record
  longer = kept.records ++ prepared txn writes ∷ []

  abbrev wide : Read → Bool
  wide write = would_be_wide here (prepared txn writes) write.item

  wide-at : (item : ℕ) → would_be_wide here (prepared txn writes) item ≡ nat_lt HELD_NAMES (width kept.catalog longer longer item)
  wide-at item =
      ap (λ n. nat_lt n (length (names_of (shown here.setup.catalog (here.records ++ prepared txn writes ∷ []) item)))) limit
      ∙ ap₂ (λ (catalog : Declared) (records : List Record). nat_lt HELD_NAMES (length (names_of (shown catalog (records ++ prepared txn writes ∷ []) item)))) (sym of.catalog) (sym of.records)

  home-of : (item : ℕ) → Contains (site_items kept.catalog kept.site) item → IsTrue (is_home kept.catalog kept.site item)
  home-of item h =
      items-home (record {
        me = kept.site;
        setup = record { catalog = kept.catalog; read_names = 0; held_names = 0 };
        records = [];
        surplus = 0;
        running = record { epoch = 0; next_txn = 0; next_grant = 0; grants = []; entries = [] };
      }) item h

  none-wide : (some : List Read) → All (λ (write : Read). IsTrue (is_home kept.catalog kept.site write.item)) some
      → first_too_many kept.catalog longer longer (site_items kept.catalog kept.site) ≡ None → list_any wide some ≡ false
  none-wide [] homes none = refl
  none-wide (write ∷ some) homes none =
      ap₂ (λ first rest. first || rest)
      (wide-at write.item ∙ wide-none (width kept.catalog longer longer write.item) (none-of-count kept.catalog longer longer (site_items kept.catalog kept.site) write.item none
      (home-listed-in kept.catalog kept.site write.item (All-head (λ (write : Read). IsTrue (is_home kept.catalog kept.site write.item)) write some homes))))
      (none-wide some (All-tail (λ (write : Read). IsTrue (is_home kept.catalog kept.site write.item)) write some homes) none)

  some-wide : (count : ℕ) → first_too_many kept.catalog longer longer (site_items kept.catalog kept.site) ≡ Some count → list_any wide writes ≡ true
  some-wide count is =
      let found = count-found kept.catalog longer longer (site_items kept.catalog kept.site) count is in
      let home = home-of found.0 found.1 in
      ⊎_elim
      (λ none.
      let same = shown-promise kept.catalog kept.records txn writes found.0 ∙ within-unwritten kept.catalog kept.records kept.records txn writes found.0 none in
      let few = subst (λ cases. length (names_of cases) ≤ HELD_NAMES) (sym same) (narrow found.0 home) in
      absurd (none-some count (sym (ap (λ (test : Bool). if test then Some (width kept.catalog longer longer found.0) else None) (le-ltb HELD_NAMES (width kept.catalog longer longer found.0) few)) ∙ found.2)))
      (λ h. let write = item-of writes found.0 h in
      has-any wide writes write.0 write.1
      (subst (λ n. would_be_wide here (prepared txn writes) n ≡ true) (sym write.2) (wide-at found.0 ∙ wide-some (width kept.catalog longer longer found.0) count found.2)))
      (written-item found.0 writes)

  pub tells-wide : {X : Type 0} (result : Result X StoreError) → All (λ (write : Read). IsTrue (is_home kept.catalog kept.site write.item)) writes
      → AnswersFor (too_many_with kept (prepared txn writes)) result → ReportsWide here txn writes result
  unfolding too_many_with
  tells-wide (Ok x) homes answer = record { accepted = none-wide writes homes answer.given; refused = tt }
  tells-wide (Err e) homes answer = record { accepted = tt; refused = by (count_of e) answer.refused }
    where
      by : (told : Option ℕ) → IfSome told (λ count. first_too_many kept.catalog longer longer (site_items kept.catalog kept.site) ≡ Some count) → IfSome told (λ _. list_any wide writes ≡ true)
      by None is = tt
      by (Some count) is = some-wide count is
