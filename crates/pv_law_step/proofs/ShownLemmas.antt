-- The shown value is the canonical one of the item's value.
use Rattle.std.proofs.Common.{◌≡◌, ⊎_elim, ℕ, ℤ, pos, Bool, true, false, Some, None, Option, List, [], ◌∷◌, refl, sym, ap, ap₂, subst, ◌∙◌, arith}
use Rattle.std.specs.Prelude.{IsTrue, is_none, if◌then◌else◌}
use Rattle.std.specs.List.{Contains}
use Rattle.std.specs.Option.{unwrap_or}
use Rattle.std.specs.Ordering.{int_eq}
use Rattle.pv_base.specs.declared.txn.TxnId.{TxnId}
use Rattle.pv_base.specs.Assignment.{AreAscending, commits}
use Rattle.pv_base.specs.Canonical.{IsFunctionOf}
use Rattle.pv_base.specs.Catalog.{Declared}
use Rattle.pv_base.specs.Named.{with_txns, names_of}
use Rattle.pv_base.specs.Polyvalue.{Case, IsCanonical, names, value_at}
use Rattle.pv_format.specs.Record.{Record, epoch_begun, prepared, outcome_known}
use Rattle.pv_law_canonical.proofs.CanonicalLemmas as canonical
use Rattle.pv_law_step.proofs.NameLists.{inserted, united, names-listed, names-ascend, undecided-ascend, undecided-is, listed-undecided}
use Rattle.pv_law_step.proofs.OutcomeLemmas.{choice-alike, choice-known}
use Rattle.pv_base.proofs.ContainsLemmas.{Contains-nil}
use Rattle.pv_law_polyvalues.proofs.ExistenceLemmas.{numbers-exact}
use Rattle.pv_law_polyvalues.proofs.PolyvalueLemmas.{value_at-agree}
use Rattle.pv_model.specs.Alternatives.{number_at}
use Rattle.pv_protocol.specs.Records.{known, is_undecided, undecided, choice}
use Rattle.pv_protocol.specs.Shown.{written, written_or, value_after, newest, declared_value, item_within, names_of_choice, names_after_write, names_after, names_within, shown_within}

pub if-same : {X : Type 0} (b : Bool) (x : X) → (if b then x else x) ≡ x
if-same true x = refl
if-same false x = refl

if-alike : {X : Type 0} {b c : Bool} {x y z w : X} → b ≡ c → x ≡ z → y ≡ w → (if b then x else y) ≡ (if c then z else w)
if-alike {b} {c} {x} {y} {z} {w} test left right =
    ap (λ d. if d then x else y) test ∙ ap₂ (λ u v. if c then u else v) left right

-- The two agree on the transactions of the list.
abbrev Agree : List TxnId → List TxnId → List TxnId → Type 0
Agree txns a b = (t : TxnId) → Contains txns t → commits a t ≡ commits b t

-- A value depends on what it names and isn't known.
pub number-alike : (records : List Record) (cases : List (Case ℤ)) (a b : List TxnId) → Agree (undecided records (names_of cases)) a b
    → number_at cases (choice records a) ≡ number_at cases (choice records b)
number-alike records cases a b agree =
    ap (λ value. unwrap_or value (pos 0))
    (value_at-agree cases (choice records a) (choice records b)
    (λ t named. choice-alike records a b t (λ unknown. agree t (listed-undecided records (names_of cases) t unknown (names-listed cases t named)))))

module _ (records : List Record) where
  -- what a choice is
  abbrev chosen : TxnId → List (Case ℤ) → (List TxnId → ℤ) → List TxnId → ℤ
  chosen txn cases value a = if commits (choice records a) txn then number_at cases (choice records a) else value a

  choice-depends : (txn : TxnId) (cases : List (Case ℤ)) (old : List TxnId) (value : List TxnId → ℤ) → AreAscending old → IsFunctionOf old value
      → (outcome : Option Bool) → known records txn ≡ outcome
      → IsFunctionOf (names_of_choice outcome txn (undecided records (names_of cases)) old) (chosen txn cases value)
  choice-depends txn cases old value up depends (Some true) is a b agree =
      if-alike (choice-known records a txn true is) refl refl ∙ number-alike records cases a b agree ∙ sym (if-alike (choice-known records b txn true is) refl refl)
  choice-depends txn cases old value up depends (Some false) is a b agree =
      if-alike (choice-known records a txn false is) refl refl ∙ depends a b agree ∙ sym (if-alike (choice-known records b txn false is) refl refl)
  choice-depends txn cases old value up depends None is a b agree =
      let both = united (undecided records (names_of cases)) old up in
      let all = inserted txn (with_txns (undecided records (names_of cases)) old) both.ascending in
      if-alike
      (choice-alike records a b txn (λ unknown. agree txn all.first))
      (number-alike records cases a b (λ t h. agree t (all.kept t (both.left t h))))
      (depends a b (λ t h. agree t (all.kept t (both.right t h))))

  choice-ascends : (txn : TxnId) (cases : List (Case ℤ)) (old : List TxnId) → AreAscending old → (outcome : Option Bool)
      → AreAscending (names_of_choice outcome txn (undecided records (names_of cases)) old)
  choice-ascends txn cases old up (Some true) = undecided-ascend records (names_of cases) (names-ascend cases)
  choice-ascends txn cases old up (Some false) = up
  choice-ascends txn cases old up None =
      (inserted txn (with_txns (undecided records (names_of cases)) old) (united (undecided records (names_of cases)) old up).ascending).ascending

  write-depends : (txn : TxnId) (old : List TxnId) (value : List TxnId → ℤ) → AreAscending old → IsFunctionOf old value → (cases : Option (List (Case ℤ)))
      → IsFunctionOf (names_after_write records txn old cases) (λ a. if commits (choice records a) txn then written_or (value a) cases (choice records a) else value a)
  write-depends txn old value up depends None a b agree =
      if-same (commits (choice records a) txn) (value a) ∙ depends a b agree ∙ sym (if-same (commits (choice records b) txn) (value b))
  write-depends txn old value up depends (Some cases) a b agree =
      choice-depends txn cases old value up depends (known records txn) refl a b agree

  write-ascends : (txn : TxnId) (old : List TxnId) → AreAscending old → (cases : Option (List (Case ℤ))) → AreAscending (names_after_write records txn old cases)
  write-ascends txn old up None = up
  write-ascends txn old up (Some cases) = choice-ascends txn cases old up (known records txn)

  module _ (item : ℕ) where
    after-depends : (old : List TxnId) (value : List TxnId → ℤ) → AreAscending old → IsFunctionOf old value → (first : Record)
        → IsFunctionOf (names_after records item old first) (λ a. value_after item (choice records a) (value a) first)
    after-depends old value up depends (epoch_begun epoch) = depends
    after-depends old value up depends (prepared txn writes) = write-depends txn old value up depends (written item writes)
    after-depends old value up depends (outcome_known txn outcome) = depends

    pub after-ascends : (old : List TxnId) → AreAscending old → (first : Record) → AreAscending (names_after records item old first)
    after-ascends old up (epoch_begun epoch) = up
    after-ascends old up (prepared txn writes) = write-ascends txn old up (written item writes)
    after-ascends old up (outcome_known txn outcome) = up

    front-depends : (front : List Record) (old : List TxnId) (value : List TxnId → ℤ) → AreAscending old → IsFunctionOf old value
        → IsFunctionOf (names_within records item old front) (λ a. newest item (choice records a) (value a) front)
    front-depends [] old value up depends = depends
    front-depends (first ∷ front) old value up depends =
        front-depends front (names_after records item old first) (λ a. value_after item (choice records a) (value a) first)
        (after-ascends old up first) (after-depends old value up depends first)

    front-ascends : (front : List Record) (old : List TxnId) → AreAscending old → AreAscending (names_within records item old front)
    front-ascends [] old up = up
    front-ascends (first ∷ front) old up = front-ascends front (names_after records item old first) (after-ascends old up first)

pub none-ascend : AreAscending []
none-ascend = λ i j d before within. absurd (omega (arith, within))

module _ (catalog : Declared) (records front : List Record) (item : ℕ) where
  pub within-ascends : AreAscending (names_within records item [] front)
  within-ascends = front-ascends records item front [] none-ascend

  pub within-depends : IsFunctionOf (names_within records item [] front) (item_within catalog records front item)
  within-depends = front-depends records item front [] (λ a. declared_value catalog item) none-ascend (λ a b agree. refl)

  pub shown-canonical : IsCanonical (shown_within catalog records front item)
  unfolding shown_within
  shown-canonical = canonical.canonical-is int_eq numbers-exact (names_within records item [] front) (item_within catalog records front item) within-ascends

  pub shown-value : (a : List TxnId) → value_at (shown_within catalog records front item) a ≡ Some (item_within catalog records front item a)
  unfolding shown_within
  shown-value = canonical.value-is int_eq numbers-exact (names_within records item [] front) (item_within catalog records front item) within-ascends within-depends

  pub shown-names : (t : TxnId) → IsTrue (names (shown_within catalog records front item) t) → Contains (names_within records item [] front) t
  unfolding shown_within
  shown-names t named = canonical.names-listed int_eq (names_within records item [] front) (item_within catalog records front item) t named

-- What the item's value may depend on isn't known.

module _ (records : List Record) where
  abbrev AreUndecided : List TxnId → Type 0
  AreUndecided txns = (t : TxnId) → Contains txns t → is_undecided records t ≡ true

  choice-undecided : (txn : TxnId) (cases : List (Case ℤ)) (old : List TxnId) → AreAscending old → AreUndecided old → (outcome : Option Bool) → known records txn ≡ outcome
      → AreUndecided (names_of_choice outcome txn (undecided records (names_of cases)) old)
  choice-undecided txn cases old up all (Some true) is t h = undecided-is records (names_of cases) t h
  choice-undecided txn cases old up all (Some false) is t h = all t h
  choice-undecided txn cases old up all None is t h =
      let both = united (undecided records (names_of cases)) old up in
      ⊎_elim
      (λ same. subst (λ u. is_undecided records u ≡ true) same (ap is_none is))
      (λ rest. ⊎_elim (λ new. undecided-is records (names_of cases) t new) (λ older. all t older) (both.only t rest))
      ((inserted txn (with_txns (undecided records (names_of cases)) old) both.ascending).only t h)

  write-undecided : (txn : TxnId) (old : List TxnId) → AreAscending old → AreUndecided old → (cases : Option (List (Case ℤ)))
      → AreUndecided (names_after_write records txn old cases)
  write-undecided txn old up all None = all
  write-undecided txn old up all (Some cases) = choice-undecided txn cases old up all (known records txn) refl

  after-undecided : (item : ℕ) (old : List TxnId) → AreAscending old → AreUndecided old → (first : Record) → AreUndecided (names_after records item old first)
  after-undecided item old up all (epoch_begun epoch) = all
  after-undecided item old up all (prepared txn writes) = write-undecided txn old up all (written item writes)
  after-undecided item old up all (outcome_known txn outcome) = all

  front-undecided : (item : ℕ) (front : List Record) (old : List TxnId) → AreAscending old → AreUndecided old → AreUndecided (names_within records item old front)
  front-undecided item [] old up all = all
  front-undecided item (first ∷ front) old up all =
      front-undecided item front (names_after records item old first) (after-ascends records item old up first) (after-undecided item old up all first)

pub shown-undecided : (catalog : Declared) (records front : List Record) (item : ℕ) (t : TxnId) → IsTrue (names (shown_within catalog records front item) t)
    → is_undecided records t ≡ true
shown-undecided catalog records front item t named =
    front-undecided records item front [] none-ascend (λ u h. absurd (Contains-nil u h)) t (shown-names catalog records front item t named)
