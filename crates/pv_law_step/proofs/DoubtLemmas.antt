-- The least item that has to be certain and isn't; and what a value is with the known outcomes put in.
use Rattle.std.proofs.Common.{◌≡◌, ℕ, ◌+◌, ◌<◌, ◌≤◌, ℤ, pos, Bool, true, false, Some, None, List, [], ◌∷◌, length, refl, sym, ap, subst, ◌∙◌, arith}
use Rattle.std.specs.Prelude.{◌==◌, if◌then◌else◌}
use Rattle.std.specs.Option.{unwrap_or}
use Rattle.std.specs.Ordering.{int_eq}
use Rattle.std.proofs.lemmas.Bool.{eqb-true, eqb-false, false≢true}
use Rattle.std.proofs.lemmas.Option.{none-some}
use Rattle.pv_base.proofs.Basics.{Some_inj}
use Rattle.pv_base.specs.Assignment.{AreAscending}
use Rattle.pv_base.specs.Canonical.{IsFunctionOf}
use Rattle.pv_base.specs.Catalog.{Item}
use Rattle.pv_base.specs.declared.txn.TxnId.{TxnId}
use Rattle.pv_base.specs.Named.{names_of}
use Rattle.pv_base.specs.Polyvalue.{Case, IsCanonical, value_at}
use Rattle.pv_format.specs.Record.{Record}
use Rattle.pv_law_canonical.proofs.CanonicalLemmas as canonical
use Rattle.pv_law_polyvalues.proofs.ExistenceLemmas.{numbers-exact}
use Rattle.pv_law_polyvalues.proofs.PolyvalueLemmas.{value_at-agree}
use Rattle.pv_law_step.proofs.NameLists.{names-ascend, names-listed, listed-undecided, undecided-ascend}
use Rattle.pv_law_step.proofs.OutcomeLemmas.{choice-alike}
use Rattle.pv_model.specs.Alternatives.{number_at}
use Rattle.pv_protocol.specs.Coordinate.{is_uncertain, settled_value, uncertain_from}
use Rattle.pv_protocol.specs.Records.{choice, undecided}
use Rattle.pv_protocol.specs.State.{Entry}

module _ (records : List Record) (entry : Entry) where
  -- Of so many items from the number on, this is the least that has to be certain and isn't.
  pub record IsFirst (n count item : ℕ) : Type 0 where
    pub from : n ≤ item
    pub below : item < n + count
    pub is : is_uncertain records entry item ≡ true
    pub least : (other : ℕ) → n ≤ other → other < item → is_uncertain records entry other ≡ false

  -- Those of the numbers from one on that have passed its successor.
  later : (n : ℕ) (P : ℕ → Type 0) → P n → ((other : ℕ) → n + 1 ≤ other → P other) → (other : ℕ) → n ≤ other → P other
  later n P at behind other up = by (n == other) refl where
    by : (b : Bool) → (n == other) ≡ b → P other
    by true same = subst P (eqb-true n other same) at
    by false apart = behind other (let differ = eqb-false n other apart in omega (arith, differ, up))

  pub first-is : (n : ℕ) (items : List Item) (item : ℕ) → uncertain_from records entry n items ≡ Some item → IsFirst n (length items) item
  first-is n [] item is = absurd (none-some item is)
  first-is n (declared ∷ items) item is = by (is_uncertain records entry n) refl is (first-is (n + 1) items item) where
    by : (b : Bool) → is_uncertain records entry n ≡ b → (if b then Some n else uncertain_from records entry (n + 1) items) ≡ Some item
        → (uncertain_from records entry (n + 1) items ≡ Some item → IsFirst (n + 1) (length items) item) → IsFirst n (length (declared ∷ items)) item
    by true at is rest =
        let same : n ≡ item = Some_inj is in record {
          from = omega (arith, same);
          below = omega (arith, same);
          is = subst (λ m. is_uncertain records entry m ≡ true) same at;
          least = λ other up down. absurd (omega (arith, same, up, down));
        }
    by false at is rest =
        let found = rest is in record {
          from = let more = found.from in omega (arith, more);
          below = let less = found.below in omega (arith, less);
          is = found.is;
          least = later n (λ other. other < item → is_uncertain records entry other ≡ false) (λ down. at) found.least;
        }

  pub none-are : (n : ℕ) (items : List Item) → uncertain_from records entry n items ≡ None → (other : ℕ) → n ≤ other → other < n + length items
      → is_uncertain records entry other ≡ false
  none-are n [] none other up down = absurd (omega (arith, up, down))
  none-are n (declared ∷ items) none other up down = by (is_uncertain records entry n) refl none (none-are (n + 1) items) where
    by : (b : Bool) → is_uncertain records entry n ≡ b → (if b then Some n else uncertain_from records entry (n + 1) items) ≡ None
        → (uncertain_from records entry (n + 1) items ≡ None → (more : ℕ) → n + 1 ≤ more → more < n + 1 + length items → is_uncertain records entry more ≡ false)
        → is_uncertain records entry other ≡ false
    by true at none rest = absurd (none-some n (sym none))
    by false at none rest =
        later n (λ more. more < n + length (declared ∷ items) → is_uncertain records entry more ≡ false) (λ less. at)
        (λ more high less. rest none more high (omega (arith, less))) other up down

  pub first-from : (n : ℕ) (items : List Item) (item : ℕ) → IsFirst n (length items) item → uncertain_from records entry n items ≡ Some item
  first-from n [] item is = absurd (let low = is.from in let high = is.below in omega (arith, low, high))
  first-from n (declared ∷ items) item is =
      by (n == item) refl (is_uncertain records entry n) refl (λ up. first-from (n + 1) items item up) where
        by : (c : Bool) → (n == item) ≡ c → (b : Bool) → is_uncertain records entry n ≡ b
            → (IsFirst (n + 1) (length items) item → uncertain_from records entry (n + 1) items ≡ Some item)
            → (if b then Some n else uncertain_from records entry (n + 1) items) ≡ Some item
        by true same true at behind = ap Some (eqb-true n item same)
        by true same false at behind = absurd (false≢true (sym at ∙ subst (λ m. is_uncertain records entry m ≡ true) (sym (eqb-true n item same)) is.is))
        by false apart true at behind =
            let differ = eqb-false n item apart in
            let low = is.from in
            absurd (false≢true (sym (is.least n (omega arith) (omega (arith, differ, low))) ∙ at))
        by false apart false at behind =
            let differ = eqb-false n item apart in
            let low = is.from in
            let high = is.below in
            behind (record {
              from = omega (arith, differ, low);
              below = omega (arith, high);
              is = is.is;
              least = λ other up down. is.least other (omega (arith, up)) down;
            })

  pub none-from : (n : ℕ) (items : List Item) → ((other : ℕ) → n ≤ other → other < n + length items → is_uncertain records entry other ≡ false)
      → uncertain_from records entry n items ≡ None
  none-from n [] none = refl
  none-from n (declared ∷ items) none =
      ap (λ (b : Bool). if b then Some n else uncertain_from records entry (n + 1) items) (none n (omega arith) (omega arith))
      ∙ none-from (n + 1) items (λ other up down. none other (omega (arith, up)) (omega (arith, down)))

module _ (records : List Record) (cases : List (Case ℤ)) where
  left-ascend : AreAscending (undecided records (names_of cases))
  left-ascend = undecided-ascend records (names_of cases) (names-ascend cases)

  settled-depends : IsFunctionOf (undecided records (names_of cases)) (λ assignment. number_at cases (choice records assignment))
  settled-depends a b agree =
      ap (λ value. unwrap_or value (pos 0))
      (value_at-agree cases (choice records a) (choice records b)
      (λ t named. choice-alike records a b t (λ unknown. agree t (listed-undecided records (names_of cases) t unknown (names-listed cases t named)))))

  pub settled-canonical : IsCanonical (settled_value records cases)
  unfolding settled_value
  settled-canonical = canonical.canonical-is int_eq numbers-exact (undecided records (names_of cases)) (λ assignment. number_at cases (choice records assignment)) left-ascend

  pub settled-value : (a : List TxnId) → value_at (settled_value records cases) a ≡ Some (number_at cases (choice records a))
  unfolding settled_value
  settled-value a =
      canonical.value-is int_eq numbers-exact (undecided records (names_of cases)) (λ assignment. number_at cases (choice records assignment)) left-ascend settled-depends a
