-- A value with one more promise, by what is known of the transaction's outcome.
use Rattle.std.proofs.Common.{◌≡◌, ◌∙◌, ⊎_elim, ℕ, ℤ, pos, ◌<◌, ◌≤◌, Bool, true, false, Some, None, Option, List, [], ◌∷◌, ◌++◌, length, All, refl, sym, ap, arith}
use Rattle.std.specs.Prelude.{if◌then◌else◌, IsTrue}
use Rattle.std.specs.List.{Contains}
use Rattle.std.specs.Option.{unwrap_or}
use Rattle.std.proofs.lemmas.Bool.{lt-ltb, le-ltb}
use Rattle.std.proofs.lemmas.List.Elements.{All-cons}
use Rattle.std.proofs.lemmas.List.Kept.{AllPairs-cons}
use Rattle.pv_base.proofs.AssignmentLemmas.{apart-from-test, commits-with, commits-with-other, same-eq}
use Rattle.pv_base.proofs.ContainsLemmas.{Contains-nil, Contains-cases, Contains-behind, Contains-first}
use Rattle.pv_base.specs.Assignment.{AreAscending, commits, is_same_txn, precedes}
use Rattle.pv_base.specs.Catalog.{Declared}
use Rattle.pv_base.specs.declared.limits.TheConstants.{HELD_NAMES}
use Rattle.pv_base.specs.declared.literal.Literal.{Literal}
use Rattle.pv_base.specs.declared.txn.TxnId.{TxnId}
use Rattle.pv_base.specs.Named.{names_of}
use Rattle.pv_base.specs.Polyvalue.{AreNames, AreOutcomes, Case, ChoiceNames, IsCanonical, IsChoice, IsPolyvalue, names, value_at, with_outcomes}
use Rattle.pv_format.specs.Record.{Record, prepared}
use Rattle.pv_law_polyvalues.proofs.AscendingLemmas.{ascending-tail, ascending-first}
use Rattle.pv_law_polyvalues.proofs.PolyvalueLemmas.{canonical-complete, depends-named, value_at-agree}
use Rattle.pv_law_values.proofs.ShownMore.{shown-alike, shown-only, within-written}
use Rattle.pv_law_step.proofs.NameLists.{names-are}
use Rattle.pv_law_step.proofs.OutcomeLemmas.{choice-alike, choice-is, choice-known, or_assigned}
use Rattle.pv_law_step.proofs.ShownLemmas.{shown-canonical, shown-value}
use Rattle.pv_model.specs.Alternatives.{Read, number_at}
use Rattle.pv_protocol.specs.Records.{choice, is_undecided}
use Rattle.pv_protocol.specs.Shown.{item_within}
use Rattle.pv_store.specs.Held.{AreKnown, outcome_in}
use Rattle.pv_store.specs.Promise.{IsWritten, after_promise, known_among, with_known}
use Rattle.pv_store.specs.Refusals.{if_too_many, names_count}

-- The known outcomes of some transactions, put in.

put-other : (txn : TxnId) (outcome : Option Bool) (literals : List Literal) (a : List TxnId) (t : TxnId) → is_same_txn txn t ≡ false
    → commits (with_outcomes (with_known txn outcome literals) a) t ≡ commits (with_outcomes literals a) t
put-other txn None literals a t apart = refl
put-other txn (Some outcome) literals a t apart = commits-with-other txn outcome (with_outcomes literals a) t apart

put-same : (txn : TxnId) (outcome : Option Bool) (literals : List Literal) (a : List TxnId) (t : TxnId) → is_same_txn txn t ≡ true
    → commits (with_outcomes (with_known txn outcome literals) a) t ≡ or_assigned outcome (commits (with_outcomes literals a) t)
put-same txn None literals a t same = refl
put-same txn (Some outcome) literals a t same =
    let rest : Bool = commits (with_outcomes literals a) t in
    commits-with txn outcome (with_outcomes literals a) t ∙ ap (λ (test : Bool). if test then outcome else rest) same

module _ (outcomes : List (TxnId × Bool)) where
  unknown-by : (txn : TxnId) (txns : List TxnId) (a : List TxnId) (t : TxnId) → outcome_in outcomes t ≡ None → (test : Bool) → is_same_txn txn t ≡ test
      → commits (with_outcomes (known_among outcomes txns) a) t ≡ commits a t → commits (with_outcomes (known_among outcomes (txn ∷ txns)) a) t ≡ commits a t
  unknown-by txn txns a t none true same rest =
      put-same txn (outcome_in outcomes txn) (known_among outcomes txns) a t same
      ∙ ap (λ outcome. or_assigned outcome (commits (with_outcomes (known_among outcomes txns) a) t)) (ap (outcome_in outcomes) (same-eq {t = txn} {u = t} same) ∙ none)
      ∙ rest
  unknown-by txn txns a t none false apart rest = put-other txn (outcome_in outcomes txn) (known_among outcomes txns) a t apart ∙ rest

  -- A transaction of which nothing is known is as it was.
  put-unknown : (txns : List TxnId) (a : List TxnId) (t : TxnId) → outcome_in outcomes t ≡ None → commits (with_outcomes (known_among outcomes txns) a) t ≡ commits a t
  put-unknown [] a t none = refl
  put-unknown (txn ∷ txns) a t none = unknown-by txn txns a t none (is_same_txn txn t) refl (put-unknown txns a t none)

  at-first : (txns : List TxnId) (a : List TxnId) (t : TxnId) (outcome : Option Bool) → outcome_in outcomes t ≡ outcome
      → or_assigned outcome (commits (with_outcomes (known_among outcomes txns) a) t) ≡ or_assigned outcome (commits a t)
  at-first txns a t None none = put-unknown txns a t none
  at-first txns a t (Some outcome) some = refl

  listed-by : (txn : TxnId) (txns : List TxnId) (a : List TxnId) (t : TxnId) (test : Bool) → is_same_txn txn t ≡ test
      → (test ≡ false → commits (with_outcomes (known_among outcomes txns) a) t ≡ or_assigned (outcome_in outcomes t) (commits a t))
      → commits (with_outcomes (known_among outcomes (txn ∷ txns)) a) t ≡ or_assigned (outcome_in outcomes t) (commits a t)
  listed-by txn txns a t true same rest =
      put-same txn (outcome_in outcomes txn) (known_among outcomes txns) a t same
      ∙ ap (λ outcome. or_assigned outcome (commits (with_outcomes (known_among outcomes txns) a) t)) (ap (outcome_in outcomes) (same-eq {t = txn} {u = t} same))
      ∙ at-first txns a t (outcome_in outcomes t) refl
  listed-by txn txns a t false apart rest = put-other txn (outcome_in outcomes txn) (known_among outcomes txns) a t apart ∙ rest refl

  behind-by : (txn : TxnId) (txns : List TxnId) (t : TxnId) → is_same_txn txn t ≡ false → Contains (txn ∷ txns) t → Contains txns t
  behind-by txn txns t apart h =
      ⊎_elim (λ same. absurd (apart-from-test {t = txn} {u = t} apart same)) (λ behind. behind) (Contains-cases txn txns t h)

  -- A transaction among them commits as is known, and else as it did.
  put-listed : (txns : List TxnId) (a : List TxnId) (t : TxnId) → Contains txns t
      → commits (with_outcomes (known_among outcomes txns) a) t ≡ or_assigned (outcome_in outcomes t) (commits a t)
  put-listed [] a t h = absurd (Contains-nil t h)
  put-listed (txn ∷ txns) a t h =
      listed-by txn txns a t (is_same_txn txn t) refl (λ apart. put-listed txns a t (behind-by txn txns t apart h))

  -- A value that names no others has the value that all known outcomes give it.
  pub settled-value : {V : Type 0} (records : List Record) → AreKnown outcomes records → (cases : List (Case V)) (txns : List TxnId) → AreNames cases txns → (a : List TxnId)
      → value_at cases (with_outcomes (known_among outcomes txns) a) ≡ value_at cases (choice records a)
  settled-value records are cases txns named a =
      value_at-agree cases (with_outcomes (known_among outcomes txns) a) (choice records a)
      (λ t is. put-listed txns a t (named.whole t is) ∙ ap (λ outcome. or_assigned outcome (commits a t)) (are t) ∙ sym (choice-is records a t))

  behind-known : (txn u : TxnId) (outcome : Option Bool) (literals : List Literal) → IsTrue (precedes txn u) → All (λ (literal : Literal). IsTrue (precedes txn literal.txn)) literals
      → All (λ (literal : Literal). IsTrue (precedes txn literal.txn)) (with_known u outcome literals)
  behind-known txn u None literals before rest = rest
  behind-known txn u (Some outcome) literals before rest = All-cons (λ (literal : Literal). IsTrue (precedes txn literal.txn)) (record { txn = u; commits = outcome }) literals before rest

  listed-known : (txns : List TxnId) (txn : TxnId) → ((t : TxnId) → Contains txns t → IsTrue (precedes txn t))
      → All (λ (literal : Literal). IsTrue (precedes txn literal.txn)) (known_among outcomes txns)
  listed-known [] txn before = λ k d below. absurd (omega (arith, below))
  listed-known (u ∷ txns) txn before =
      behind-known txn u (outcome_in outcomes u) (known_among outcomes txns) (before u (Contains-first u txns))
      (listed-known txns txn (λ t h. before t (Contains-behind u txns t h)))

  ascend-by : (txn : TxnId) (outcome : Option Bool) (literals : List Literal) → All (λ (literal : Literal). IsTrue (precedes txn literal.txn)) literals → AreOutcomes literals
      → AreOutcomes (with_known txn outcome literals)
  ascend-by txn None literals before rest = rest
  ascend-by txn (Some outcome) literals before rest =
      AllPairs-cons (λ (literal later : Literal). IsTrue (precedes literal.txn later.txn)) (record { txn = txn; commits = outcome }) literals before rest

  -- They ascend as the transactions do.
  pub known-ascend : (txns : List TxnId) → AreAscending txns → AreOutcomes (known_among outcomes txns)
  known-ascend [] up = λ i j d before within. absurd (omega (arith, within))
  known-ascend (txn ∷ txns) up =
      ascend-by txn (outcome_in outcomes txn) (known_among outcomes txns) (listed-known txns txn (ascending-first txn txns up)) (known-ascend txns (ascending-tail txn txns up))

-- A canonical value that is another one with all known outcomes put in names none that is known.
pub settled-undecided : {V : Type 0} (records : List Record) (before after : List (Case V)) → IsCanonical after
    → ((a : List TxnId) → value_at after a ≡ value_at before (choice records a)) → (t : TxnId) → IsTrue (names after t) → IsTrue (is_undecided records t)
settled-undecided records before after canonical values t named =
    depends-named after (is_undecided records) canonical
    (λ a b agree. values a
    ∙ value_at-agree before (choice records a) (choice records b) (λ u is. choice-alike records a b u (λ unknown. agree u unknown))
    ∙ sym (values b)) t named

-- The value after the promise.

few-none : (count : ℕ) → count ≤ HELD_NAMES → if_too_many count ≡ None
few-none count few = ap (λ (test : Bool). if test then Some count else None) (le-ltb HELD_NAMES count few)

pub many-some : (count : ℕ) → HELD_NAMES < count → if_too_many count ≡ Some count
many-some count many = ap (λ (test : Bool). if test then Some count else None) (lt-ltb HELD_NAMES count many)

-- A polyvalue isn't refused.
pub polyvalue-taken : (cases : List (Case ℤ)) → IsPolyvalue HELD_NAMES cases → if_too_many (names_count cases) ≡ None
polyvalue-taken cases is = few-none (names_count cases) (is.few (names_of cases) (names-are cases))

pub narrow-taken : (cases : List (Case ℤ)) → length (names_of cases) ≤ HELD_NAMES → if_too_many (names_count cases) ≡ None
narrow-taken cases few = few-none (names_count cases) few

module _ (outcomes : List (TxnId × Bool)) (txn : TxnId) (new old : List (Case ℤ)) (catalog : Declared) (records front : List Record) (item : ℕ) (writes : List Read)
    (is : IsWritten outcomes txn new old catalog records front item writes) where
  abbrev then_ : List (Case ℤ)
  then_ = after_promise catalog records front txn writes item

  abbrev value : List TxnId → ℤ
  value a = item_within catalog records front item a

  -- the item's value with the promise, where the transaction's outcome is this one
  with-outcome : (a : List TxnId) (b : Bool) → commits (choice records a) txn ≡ b
      → item_within catalog records (front ++ prepared txn writes ∷ []) item a ≡ (if b then number_at new (choice records a) else value a)
  with-outcome a b so =
      within-written catalog records front txn writes item new is.written a ∙ ap (λ (test : Bool). if test then number_at new (choice records a) else value a) so

  -- Where it is known that the transaction doesn't commit, the value stays.
  pub after-abort : outcome_in outcomes txn ≡ Some false → old ≡ then_
  after-abort told =
      is.shown
      ∙ sym (shown-alike catalog records (front ++ prepared txn writes ∷ []) records front item
      (λ a. with-outcome a false (choice-known records a txn false (sym (is.known txn) ∙ told))))

  number-of : (cases : List (Case ℤ)) (a : List TxnId) (v : ℤ) → value_at cases a ≡ Some v → number_at cases a ≡ v
  number-of cases a v at = ap (λ (found : Option ℤ). unwrap_or found (pos 0)) at

  -- Where it is known that it commits, the value is the new one, settled.
  pub after-commit : outcome_in outcomes txn ≡ Some true → (cases : List (Case ℤ)) → IsCanonical cases
      → ((a : List TxnId) → value_at cases a ≡ value_at new (choice records a)) → cases ≡ then_
  after-commit told cases canonical values =
      shown-only catalog records (front ++ prepared txn writes ∷ []) item cases canonical
      (λ a. let some = canonical-complete cases canonical a in
      some.1
      ∙ ap Some (sym (with-outcome a true (choice-known records a txn true (sym (is.known txn) ∙ told))
      ∙ number-of new (choice records a) some.0 (sym (values a) ∙ some.1))))

  undecided-commits : outcome_in outcomes txn ≡ None → (a : List TxnId) → commits (choice records a) txn ≡ commits a txn
  undecided-commits told a = choice-is records a txn ∙ ap (λ outcome. or_assigned outcome (commits a txn)) (sym (is.known txn) ∙ told)

  -- Where nothing is known, it is the choice between both.
  module _ (told : outcome_in outcomes txn ≡ None) (settled : List (Case ℤ)) (canonical : IsCanonical settled)
      (values : (a : List TxnId) → value_at settled a ≡ value_at new (choice records a)) where
    chosen-by : (a : List TxnId) (b : Bool) → commits (choice records a) txn ≡ b
        → value_at (if b then settled else old) a ≡ Some (item_within catalog records (front ++ prepared txn writes ∷ []) item a)
    chosen-by a true so =
        let some = canonical-complete settled canonical a in
        some.1 ∙ ap Some (sym (with-outcome a true so ∙ number-of new (choice records a) some.0 (sym (values a) ∙ some.1)))
    chosen-by a false so =
        ap (λ (cases : List (Case ℤ)). value_at cases a) is.shown ∙ shown-value catalog records front item a ∙ ap Some (sym (with-outcome a false so))

    then-chosen : (a : List TxnId) → value_at (if commits a txn then settled else old) a ≡ Some (item_within catalog records (front ++ prepared txn writes ∷ []) item a)
    then-chosen a = chosen-by a (commits a txn) (undecided-commits told a)

    pub after-choice : (cases : List (Case ℤ)) → IsCanonical cases → IsChoice txn old settled cases → cases ≡ then_
    after-choice cases whole choice-of =
        shown-only catalog records (front ++ prepared txn writes ∷ []) item cases whole (λ a. choice-of a ∙ then-chosen a)

    pub choice-names : ChoiceNames txn old settled (names_count then_)
    choice-names = record {
      cases = then_;
      canonical = shown-canonical catalog records (front ++ prepared txn writes ∷ []) item;
      choice = λ a. shown-value catalog records (front ++ prepared txn writes ∷ []) item a ∙ sym (then-chosen a);
      txns = names_of then_;
      named = names-are then_;
      counted = refl;
    }
