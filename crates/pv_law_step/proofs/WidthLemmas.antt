-- The width of shown values is kept by every record that a step or a start appends.
use Rattle.std.proofs.Common.{◌≡◌, ◌⊎◌, ⊎_elim, ℕ, ℤ, ◌≤◌, Bool, true, false, Some, None, Option, List, [], ◌∷◌, ◌++◌, inl, inr, length, refl, sym, ap, subst, ◌∙◌, arith}
use Rattle.std.specs.Prelude.{◌==◌, ◌||◌, if◌then◌else◌, IsTrue}
use Rattle.std.specs.List.{list_any}
use Rattle.std.proofs.lemmas.Bool.{false≢true, eqb-true}
use Rattle.pv_base.specs.declared.txn.TxnId.{TxnId}
use Rattle.pv_base.specs.Assignment.{commits}
use Rattle.pv_base.specs.Catalog.{Declared}
use Rattle.pv_base.specs.Named.{names_of}
use Rattle.pv_base.specs.Polyvalue.{Case, DependsOnlyOn, names}
use Rattle.pv_format.specs.Record.{Record, epoch_begun, prepared, outcome_known}
use Rattle.pv_law_step.proofs.NameLists.{names-listed, listed-names, names-ascend}
use Rattle.pv_law_step.proofs.OutcomeLemmas.{with_recorded, choice-more, recorded-alike}
use Rattle.pv_law_step.proofs.ShownLemmas.{if-same, shown-canonical, shown-value}
use Rattle.pv_law_polyvalues.proofs.AscendingLemmas.{fewer-ascending}
use Rattle.pv_law_polyvalues.proofs.PolyvalueLemmas.{value_at-agree, depends-named}
use Rattle.pv_model.specs.Alternatives.{Read}
use Rattle.pv_protocol.specs.Lock.{is_home}
use Rattle.pv_protocol.specs.Records.{choice}
use Rattle.pv_protocol.specs.Shown.{written, written_or, value_after, newest, declared_value, item_within, shown_within, shown}
use Rattle.pv_protocol.specs.Width.{IsNarrow}

-- Lists with one more at the end.

pub no-empty : {X : Type 0} (xs : List X) (y : X) (ys : List X) → [] ≡ xs ++ y ∷ ys → ⊥
no-empty [] y ys e = cc
no-empty (x ∷ xs) y ys e = cc

-- An element of a list with one more at its end is that one, or stands before it.
pub ends : {X : Type 0} (xs : List X) (r : X) (ys : List X) (p : X) (zs : List X) → xs ++ r ∷ [] ≡ ys ++ p ∷ zs
    → ((ys ≡ xs) × (r ≡ p)) ⊎ ((rest : List X) × (xs ≡ ys ++ p ∷ rest))
ends [] r [] p zs e = inl (refl, cc)
ends [] r (y ∷ ys) p zs e = absurd (no-empty ys p zs (cc))
ends (x ∷ xs) r [] p zs e = inr (xs, (cc))
ends (x ∷ xs) r (y ∷ ys) p zs e =
    let first : x ≡ y = cc in
    let rest : xs ++ r ∷ [] ≡ ys ++ p ∷ zs = cc in
    ⊎_elim
    (λ last. inl ((cc last.0), last.1))
    (λ before. let e : xs ≡ ys ++ p ∷ before.0 = before.1 in inr (before.0, (cc)))
    (ends xs r ys p zs rest)

-- The newest write, with one more record.
pub newest-more : (item : ℕ) (a : List TxnId) (front : List Record) (more : Record) (value : ℤ)
    → newest item a value (front ++ more ∷ []) ≡ value_after item a (newest item a value front) more
newest-more item a [] more value = refl
newest-more item a (first ∷ front) more value = newest-more item a front more (value_after item a value first)

-- What follows the last promise changes no value; without one, every value is as declared.
data Ending (records : List Record) : Type 0 where
  unwritten : ((item : ℕ) (a : List TxnId) (value : ℤ) → newest item a value records ≡ value) → Ending records
  written_last : (before after : List Record) (txn : TxnId) (writes : List Read) → records ≡ before ++ prepared txn writes ∷ after
      → ((item : ℕ) (a : List TxnId) (value : ℤ) → newest item a value records ≡ newest item a value (before ++ prepared txn writes ∷ []))
      → Ending records

ending-step : (first : Record) (records : List Record) → Ending records → Ending (first ∷ records)
ending-step first records (written_last before after txn writes split same) =
    written_last (first ∷ before) after txn writes (ap (λ rest. first ∷ rest) split) (λ item a value. same item a (value_after item a value first))
ending-step (epoch_begun epoch) records (unwritten same) = unwritten same
ending-step (outcome_known txn outcome) records (unwritten same) = unwritten same
ending-step (prepared txn writes) records (unwritten same) =
    written_last [] records txn writes refl (λ item a value. same item a (value_after item a value (prepared txn writes)))

ending : (records : List Record) → Ending records
ending [] = unwritten (λ item a value. refl)
ending (first ∷ records) = ending-step first records (ending records)

-- How many names.

module _ (catalog : Declared) where
  -- A value that is another one, at assignments that follow, names no more.
  narrower : (records front others back : List Record) (item : ℕ) (f : List TxnId → List TxnId)
      → ((a b : List TxnId) (t : TxnId) → commits a t ≡ commits b t → commits (f a) t ≡ commits (f b) t)
      → ((a : List TxnId) → item_within catalog others back item a ≡ item_within catalog records front item (f a))
      → length (names_of (shown_within catalog others back item)) ≤ length (names_of (shown_within catalog records front item))
  narrower records front others back item f keeps value =
      let old = shown_within catalog records front item in
      let new = shown_within catalog others back item in
      let depends : DependsOnlyOn (names old) new =
      λ a b agree. shown-value catalog others back item a ∙ ap Some (value a) ∙ sym (shown-value catalog records front item (f a))
      ∙ value_at-agree old (f a) (f b) (λ t named. keeps a b t (agree t named))
      ∙ shown-value catalog records front item (f b) ∙ ap Some (sym (value b)) ∙ sym (shown-value catalog others back item b) in
      fewer-ascending (names_of new) (names_of old) (names-ascend new)
      (λ t h. names-listed old t (depends-named new (names old) (shown-canonical catalog others back item) depends t (listed-names new t h)))

  -- A value that is the same everywhere names nothing.
  nameless : (others back : List Record) (item : ℕ) (v : ℤ) → ((a : List TxnId) → item_within catalog others back item a ≡ v)
      → length (names_of (shown_within catalog others back item)) ≤ 0
  nameless others back item v value =
      let new = shown_within catalog others back item in
      let depends : DependsOnlyOn (λ t. false) new =
      λ a b agree. shown-value catalog others back item a ∙ ap Some (value a ∙ sym (value b)) ∙ sym (shown-value catalog others back item b) in
      fewer-ascending (names_of new) [] (names-ascend new)
      (λ t h. absurd (false≢true (depends-named new (λ t. false) (shown-canonical catalog others back item) depends t (listed-names new t h))))

  -- With one more record, what was before it is no wider.
  with-more : (records front : List Record) (more : Record) (item : ℕ)
      → length (names_of (shown_within catalog (records ++ more ∷ []) front item)) ≤ length (names_of (shown_within catalog records front item))
  with-more records front more item =
      narrower records front (records ++ more ∷ []) front item (with_recorded more) (recorded-alike more)
      (λ a. ap (λ b. newest item b (declared_value catalog item) front) (choice-more records more a))

  module _ (limit site : ℕ) (records : List Record) (narrow : IsNarrow limit catalog site records) (txn : TxnId) (writes : List Read) where
    abbrev all : List Record
    all = records ++ prepared txn writes ∷ []

    -- An item that isn't written keeps its value.
    same-value : (item : ℕ) → written item writes ≡ None → (a : List TxnId)
        → item_within catalog all all item a ≡ newest item (choice records a) (declared_value catalog item) records
    same-value item none a =
        let old = newest item (choice records a) (declared_value catalog item) records in
        let old-value : ℤ = old in
        ap (λ b. newest item b (declared_value catalog item) all) (choice-more records (prepared txn writes) a)
        ∙ newest-more item (choice records a) records (prepared txn writes) (declared_value catalog item)
        ∙ ap (λ cases. if commits (choice records a) txn then written_or old-value cases (choice records a) else old-value) none
        ∙ if-same (commits (choice records a) txn) old-value

    unwritten-fits : (item : ℕ) → IsTrue (is_home catalog site item) → written item writes ≡ None → Ending records → length (names_of (shown catalog all item)) ≤ limit
    unwritten-fits item home none (unwritten same) =
        omega (arith, nameless all all item (declared_value catalog item) (λ a. same-value item none a ∙ same item (choice records a) (declared_value catalog item)))
    unwritten-fits item home none (written_last before after last others split same) =
        omega (
          arith,
          narrower records (before ++ prepared last others ∷ []) all all item (λ a. a) (λ a b t alike. alike)
              (λ a. same-value item none a ∙ same item (choice records a) (declared_value catalog item)),
          narrow.few before after last others item home split,
        )

    written-fits : ((item : ℕ) (cases : List (Case ℤ)) → written item writes ≡ Some cases → length (names_of (shown catalog all item)) ≤ limit)
        → (item : ℕ) → IsTrue (is_home catalog site item) → (cases : Option (List (Case ℤ))) → written item writes ≡ cases → length (names_of (shown catalog all item)) ≤ limit
    written-fits fits item home (Some cases) is = fits item cases is
    written-fits fits item home None is = unwritten-fits item home is (ending records)

    -- A promise by which no written item becomes too wide keeps the site narrow.
    pub promise-narrow : ((item : ℕ) (cases : List (Case ℤ)) → written item writes ≡ Some cases → length (names_of (shown catalog all item)) ≤ limit)
        → IsNarrow limit catalog site all
    promise-narrow fits = record {
      few = λ before after of these item home split. ⊎_elim
          (λ last. promised-last fits before of these item home last.0 last.1)
          (λ earlier. omega (arith, with-more records (before ++ prepared of these ∷ []) (prepared txn writes) item, narrow.few before earlier.0 of these item home earlier.1))
          (ends records (prepared txn writes) before (prepared of these) after split);
    } where
      promised-last : ((item : ℕ) (cases : List (Case ℤ)) → written item writes ≡ Some cases → length (names_of (shown catalog all item)) ≤ limit)
          → (before : List Record) (of : TxnId) (these : List Read) (item : ℕ) → IsTrue (is_home catalog site item) → before ≡ records → prepared txn writes ≡ prepared of these
          → length (names_of (shown_within catalog all (before ++ prepared of these ∷ []) item)) ≤ limit
      promised-last fits before of these item home same-front same-last =
          subst (λ front. length (names_of (shown_within catalog all front item)) ≤ limit)
          (ap (λ last. records ++ last ∷ []) same-last ∙ ap (λ front. front ++ prepared of these ∷ []) (sym same-front))
          (written-fits fits item home (written item writes) refl)

  -- A record that is no promise keeps the site narrow.
  pub other-narrow : (limit site : ℕ) (records : List Record) → IsNarrow limit catalog site records → (more : Record)
      → ((txn : TxnId) (writes : List Read) → more ≡ prepared txn writes → ⊥) → IsNarrow limit catalog site (records ++ more ∷ [])
  other-narrow limit site records narrow more other = record {
    few = λ before after of these item home split. ⊎_elim
        (λ last. absurd (other of these last.1))
        (λ earlier. omega (arith, with-more records (before ++ prepared of these ∷ []) more item, narrow.few before earlier.0 of these item home earlier.1))
        (ends records more before (prepared of these) after split);
  }

-- A test that no write passes, it doesn't pass at an item that is written.

pub or-none : (b c : Bool) → b || c ≡ false → (b ≡ false) × (c ≡ false)
or-none true c h = absurd (false≢true (sym h))
or-none false c h = (refl, h)

written-by : (p : ℕ → Bool) (b : Bool) (item : ℕ) (write : Read) (rest : Option (List (Case ℤ))) (cases : List (Case ℤ)) → (write.item == item) ≡ b → p write.item ≡ false
    → (rest ≡ Some cases → p item ≡ false) → (if b then Some write.cases else rest) ≡ Some cases → p item ≡ false
written-by p true item write rest cases same fails later is = subst (λ n. p n ≡ false) (eqb-true write.item item same) fails
written-by p false item write rest cases other fails later is = later is

pub none-written : (p : ℕ → Bool) (writes : List Read) → list_any (λ write. p write.item) writes ≡ false
    → (item : ℕ) (cases : List (Case ℤ)) → written item writes ≡ Some cases → p item ≡ false
none-written p [] none item cases is = absurd (let wrong : ⊥ = cc in wrong)
none-written p (write ∷ writes) none item cases is =
    let parts = or-none (p write.item) (list_any (λ (other : Read). p other.item) writes) none in
    written-by p (write.item == item) item write (written item writes) cases refl parts.0 (λ later. none-written p writes parts.1 item cases later) is

-- What is shown now is what was shown after the last promise.
pub narrow-now : (limit : ℕ) (catalog : Declared) (site : ℕ) (records : List Record) → IsNarrow limit catalog site records → (item : ℕ)
    → IsTrue (is_home catalog site item) → length (names_of (shown catalog records item)) ≤ limit
narrow-now limit catalog site records narrow item home = now-by (ending records) where
  now-by : Ending records → length (names_of (shown catalog records item)) ≤ limit
  now-by (unwritten same) =
      omega (arith, nameless catalog records records item (declared_value catalog item) (λ a. same item (choice records a) (declared_value catalog item)))
  now-by (written_last before after txn writes split same) =
      omega (
        arith,
        narrower catalog records (before ++ prepared txn writes ∷ []) records records item (λ a. a) (λ a b t alike. alike)
            (λ a. same item (choice records a) (declared_value catalog item)),
        narrow.few before after txn writes item home split,
      )

-- An item of the site that a promise doesn't write stays narrow.
pub unwritten-narrow : (limit : ℕ) (catalog : Declared) (site : ℕ) (records : List Record) → IsNarrow limit catalog site records → (txn : TxnId) (writes : List Read) (item : ℕ)
    → IsTrue (is_home catalog site item) → written item writes ≡ None → length (names_of (shown catalog (records ++ prepared txn writes ∷ []) item)) ≤ limit
unwritten-narrow limit catalog site records narrow txn writes item home none = unwritten-fits catalog limit site records narrow txn writes item home none (ending records)
