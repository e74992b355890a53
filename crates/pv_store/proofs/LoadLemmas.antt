-- Records that are there from the start, one after another.
use Rattle.std.proofs.Common.{◌≡◌, ◌∙◌, suc, ℕ, ℤ, ◌<◌, ◌≤◌, Bool, true, false, Some, None, Option, List, [], ◌∷◌, ◌++◌, ◌==◌, length, take, drop, get_or, All, refl, sym, ap, ap₂, subst, arith}
use Rattle.std.specs.Prelude.{Result, Err, IfSome, slice_get, if◌then◌else◌, IsTrue}
use Rattle.std.specs.Option.{option_map, option_or}
use Rattle.std.proofs.lemmas.Bool.{eqb-true}
use Rattle.std.proofs.lemmas.Grind.{common_steps}
use Rattle.std.proofs.lemmas.List.Elements.{All-contains}
use Rattle.pv_base.proofs.ContainsLemmas.{Contains-nil}
use Rattle.pv_base.specs.Catalog.{Declared}
use Rattle.pv_base.specs.declared.txn.TxnId.{TxnId}
use Rattle.pv_base.specs.Polyvalue.{Case, names}
use Rattle.pv_format.specs.Record.{Record, epoch_begun, prepared, outcome_known}
use Rattle.pv_law_values.proofs.ShownMore.{shown-alike, within-epoch, within-outcome, within-unwritten}
use Rattle.pv_law_step.proofs.ShownLemmas.{shown-names}
use Rattle.pv_model.specs.Alternatives.{Read}
use Rattle.pv_protocol.specs.Lock.{is_home}
use Rattle.pv_protocol.specs.Shown.{shown_within}
use Rattle.pv_store.specs.Held.{AreKnown, ArePlaced, AreShown, Values, replaced_at}
use Rattle.pv_store.specs.Kept.{Places, has_place}
use Rattle.pv_store.specs.Promise.{after_promise}
use Rattle.pv_store.specs.declared.error.StoreError.{StoreError}
use Rattle.pv_store.specs.Refusals.{IsRefusedFor, count_of, first_too_many_after, site_items, too_many_at, too_many_in}
use Rattle.pv_store.specs.Writes.{AreAfter, IsPromising}
use Rattle.pv_store.proofs.HeldLemmas.{home-declared, not-home, placed-again, replaced_at-some, shown-again}
use Rattle.pv_store.proofs.MentionLemmas.{any-has, take-all}
use Rattle.pv_store.proofs.WriteLemmas.{drop-further, past-end, take-further}
use Rattle.pv_store.proofs.SettlingLemmas.{has_item, replaced-each}

module _ (catalog : Declared) (site : ℕ) (records front : List Record) where
  -- Without records, whatever outcomes are told, values are as declared.
  pub declared-shown : (values : Values) → AreShown catalog site [] [] values → AreShown catalog site records [] values
  declared-shown values are = shown-again catalog site [] [] records [] values (λ item. shown-alike catalog records [] [] [] item (λ a. refl)) are

  pub nothing-placed : (places : Places) → ArePlaced catalog site records [] places
  nothing-placed places item txn home named = absurd (Contains-nil txn (shown-names catalog records [] item txn named))

  -- A record that is no promise.

  pub epoch-shown : (epoch : ℕ) (values : Values) → AreShown catalog site records front values → AreShown catalog site records (front ++ epoch_begun epoch ∷ []) values
  epoch-shown epoch values are = shown-again catalog site records front records (front ++ epoch_begun epoch ∷ []) values (within-epoch catalog records front epoch) are

  pub epoch-placed : (epoch : ℕ) (places : Places) → ArePlaced catalog site records front places → ArePlaced catalog site records (front ++ epoch_begun epoch ∷ []) places
  epoch-placed epoch places are = placed-again catalog site records front records (front ++ epoch_begun epoch ∷ []) places (within-epoch catalog records front epoch) are

  pub outcome-shown : (txn : TxnId) (commits : Bool) (values : Values) → AreShown catalog site records front values → AreShown catalog site records (front ++ outcome_known txn commits ∷ []) values
  outcome-shown txn commits values are = shown-again catalog site records front records (front ++ outcome_known txn commits ∷ []) values (within-outcome catalog records front txn commits) are

  pub outcome-placed : (txn : TxnId) (commits : Bool) (places : Places) → ArePlaced catalog site records front places → ArePlaced catalog site records (front ++ outcome_known txn commits ∷ []) places
  outcome-placed txn commits places are = placed-again catalog site records front records (front ++ outcome_known txn commits ∷ []) places (within-outcome catalog records front txn commits) are

  -- A promise.
  module _ (txn : TxnId) (writes new : List Read) (after : AreAfter catalog site records front txn writes new) where
    abbrev later : ℕ → List (Case ℤ)
    later item = after_promise catalog records front txn writes item

    unwritten : (item : ℕ) → IsTrue (is_home catalog site item) → has_item item new ≡ false → shown_within catalog records front item ≡ later item
    unwritten item home absent = sym (within-unwritten catalog records front txn writes item (after.every item home absent))

    put-by : (item : ℕ) (test : Bool) → is_home catalog site item ≡ test
        → replaced_at item new (if test then Some (shown_within catalog records front item) else None) ≡ (if test then Some (later item) else None)
    put-by item true home =
        replaced_at-some item new (shown_within catalog records front item)
        ∙ ap Some (replaced-each later item new (shown_within catalog records front item) after.then_shown (unwritten item home))
    put-by item false away = not-home catalog site item new after.here away

    pub new-within : (values : Values) → AreShown catalog site records front values → All (λ (read : Read). read.item < length values) new
    new-within values are = λ k d below. let home = home-declared catalog site (get_or new k d).item (after.here k d below) in omega (arith, home, are.all)

    pub put-shown : (values put : Values) → AreShown catalog site records front values
        → ((item : ℕ) → slice_get put item ≡ option_map (λ old. replaced_at item new old) (slice_get values item)) → length put ≡ length values
        → AreShown catalog site records (front ++ prepared txn writes ∷ []) put
    put-shown values put are puts same = record {
      all = same ∙ are.all;
      each = λ item within. puts item ∙ ap (option_map (λ old. replaced_at item new old)) (are.each item within) ∙ ap Some (put-by item (is_home catalog site item) refl);
      narrow = after.narrow;
    }

    pub put-placed : (old places : Places) → ArePlaced catalog site records front old
        → ((t : TxnId) (item : ℕ) → has_place old t item ≡ true → has_place places t item ≡ true)
        → All (λ (value : Read). (t : TxnId) → IsTrue (names value.cases t) → has_place places t value.item ≡ true) new
        → ArePlaced catalog site records (front ++ prepared txn writes ∷ []) places
    put-placed old places placed more put item t home named = by (has_item item new) refl
      where
        by : (test : Bool) → has_item item new ≡ test → has_place places t item ≡ true
        by true present =
            let one = any-has (λ (read : Read). read.item == item) new present in
            let equal : one.0.item ≡ item = eqb-true one.0.item item one.2 in
            subst (λ n. has_place places t n ≡ true) equal
            (All-contains (λ (value : Read). (t : TxnId) → IsTrue (names value.cases t) → has_place places t value.item ≡ true) new one.0 put one.1 t
            (subst (λ cases. IsTrue (names cases t)) (ap later (sym equal) ∙ sym (All-contains (λ (read : Read). read.cases ≡ later read.item) new one.0 after.then_shown one.1)) named))
        by false absent = more t item (placed item t home (subst (λ cases. IsTrue (names cases t)) (sym (unwritten item home absent)) named))

-- The first count that is too large, by the first record and those after it.
pub count-first : (catalog : Declared) (site : ℕ) (records front : List Record) (first : Record) (rest : List Record)
    → first_too_many_after catalog records (site_items catalog site) front (first ∷ rest)
    ≡ option_or (too_many_at catalog site records front first) (first_too_many_after catalog records (site_items catalog site) (front ++ first ∷ []) rest)
count-first catalog site records front (epoch_begun epoch) rest = refl
count-first catalog site records front (prepared txn writes) rest = refl
count-first catalog site records front (outcome_known txn commits) rest = refl

-- The records before this place are loaded, and whether a value is too wide is seen by those that are left.
pub record AreLoaded (catalog : Declared) (site : ℕ) (records : List Record) (i : ℕ) (values : Values) (places : Places) : Type 0 where
  pub values_are : AreShown catalog site records (take i records) values
  pub places_are : ArePlaced catalog site records (take i records) places
  pub count : too_many_in catalog site records ≡ first_too_many_after catalog records (site_items catalog site) (take i records) (drop i records)

module _ (catalog : Declared) (site : ℕ) (records : List Record) where
  pub loaded-none : (values : Values) (places : Places) → AreShown catalog site [] [] values → AreLoaded catalog site records 0 values places
  unfolding too_many_in
  loaded-none values places are = record {
    values_are = declared-shown catalog site records [] values are;
    places_are = nothing-placed catalog site records [] places;
    count = refl;
  }

  module _ (i : ℕ) (values : Values) (places : Places) (so : AreLoaded catalog site records i values places) (first : Record) (rest : List Record) (at : drop i records ≡ first ∷ rest) where
    count-split : too_many_in catalog site records
        ≡ option_or (too_many_at catalog site records (take i records) first) (first_too_many_after catalog records (site_items catalog site) (take i records ++ first ∷ []) rest)
    count-split =
        so.count ∙ ap (first_too_many_after catalog records (site_items catalog site) (take i records)) at ∙ count-first catalog site records (take i records) first rest

    pub loaded-next : (put : Values) (more : Places) → AreShown catalog site records (take i records ++ first ∷ []) put → ArePlaced catalog site records (take i records ++ first ∷ []) more
        → too_many_at catalog site records (take i records) first ≡ None → AreLoaded catalog site records (suc i) put more
    loaded-next put more are placed fits =
        let front : take (suc i) records ≡ take i records ++ first ∷ [] = take-further records i first rest at in
        record {
          values_are = subst (λ front. AreShown catalog site records front put) (sym front) are;
          places_are = subst (λ front. ArePlaced catalog site records front more) (sym front) placed;
          count = count-split
              ∙ ap (λ told. option_or told (first_too_many_after catalog records (site_items catalog site) (take i records ++ first ∷ []) rest)) fits
              ∙ ap₂ (first_too_many_after catalog records (site_items catalog site)) (sym front) (sym (drop-further records i first rest at));
        }

    pub loaded-refused : {X Y : Type 0} (e : StoreError) (part : Result X StoreError) (result : Result Y StoreError) → part ≡ Err e → result ≡ Err e
        → IsRefusedFor (too_many_at catalog site records (take i records) first) part → IsRefusedFor (too_many_in catalog site records) result
    loaded-refused e part result failed is refused =
        subst (IsRefusedFor (too_many_in catalog site records)) (sym is)
        (record { accepted = tt; refused = by (count_of e) (subst (IsRefusedFor (too_many_at catalog site records (take i records) first)) failed refused).refused })
      where
        by : (told : Option ℕ) → IfSome told (λ count. too_many_at catalog site records (take i records) first ≡ Some count) → IfSome told (λ count. too_many_in catalog site records ≡ Some count)
        by None h = tt
        by (Some count) h = count-split ∙ ap (λ told. option_or told (first_too_many_after catalog records (site_items catalog site) (take i records ++ first ∷ []) rest)) h

  pub loaded-all : (i : ℕ) (values : Values) (places : Places) → AreLoaded catalog site records i values places → length records ≤ i
      → AreShown catalog site records records values × ArePlaced catalog site records records places × (too_many_in catalog site records ≡ None)
  loaded-all i values places so far =
      let all : take i records ≡ records = take-all records i far in (
        subst (λ front. AreShown catalog site records front values) all so.values_are,
        subst (λ front. ArePlaced catalog site records front places) all so.places_are,
        so.count ∙ ap (first_too_many_after catalog records (site_items catalog site) (take i records)) (past-end records i far),
      )

pub promising : (catalog : Declared) (site : ℕ) (records front : List Record) (outcomes : List (TxnId × Bool)) (values same : Values) → same ≡ values → AreKnown outcomes records
    → AreShown catalog site records front values → IsPromising catalog site records front outcomes same
promising catalog site records front outcomes values same is known are =
    record { known = known; shown = subst (λ (values : Values). AreShown catalog site records front values) (sym is) are }

pub front-whole : {X : Type 0} (xs ys : List X) (n : ℕ) → n ≡ length xs → take n (xs ++ ys) ≡ xs
front-whole xs ys n is = grind (arith, common_steps)
