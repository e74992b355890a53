-- Records that are there, and the tests for them.
use Rattle.std.proofs.Common.{◌≡◌, ◌⊎◌, ⊎_elim, Bool, true, false, Some, List, [], ◌∷◌, ◌++◌, inl, inr, refl, sym, ap, subst}
use Rattle.std.specs.Prelude.{if◌then◌else◌}
use Rattle.std.specs.List.{Contains, list_any}
use Rattle.std.proofs.lemmas.Bool.{or_cases, or_left, or_right, false≢true}
use Rattle.std.proofs.lemmas.Option.{none-some}
use Rattle.pv_base.proofs.AssignmentLemmas.{same-eq, same-refl}
use Rattle.pv_base.proofs.Basics.{Some_inj}
use Rattle.pv_base.proofs.ContainsLemmas.{Contains-first, Contains-behind, Contains-nil, Contains-cases}
use Rattle.pv_base.specs.Assignment.{is_same_txn}
use Rattle.pv_base.specs.declared.txn.TxnId.{TxnId}
use Rattle.pv_format.specs.Record.{Record, epoch_begun, prepared, outcome_known}
use Rattle.pv_law_acts.proofs.ListLemmas.{listed-before, listed-either}
use Rattle.pv_model.specs.Alternatives.{Read}
use Rattle.pv_protocol.specs.Committed.{says_yes}
use Rattle.pv_protocol.specs.Records.{known, is_prepared}

-- Promises.

behind-promise : (first : Record) (records : List Record) (txn : TxnId) → ((writes : List Read) × Contains records (prepared txn writes))
    → (writes : List Read) × Contains (first ∷ records) (prepared txn writes)
behind-promise first records txn found = (found.0, Contains-behind first records (prepared txn found.0) found.1)

pub prepared-listed : (records : List Record) (txn : TxnId) → is_prepared records txn ≡ true → (writes : List Read) × Contains records (prepared txn writes)
prepared-listed [] txn is = absurd (false≢true is)
prepared-listed (prepared promised writes ∷ records) txn is =
    ⊎_elim
    (λ here. (writes, subst (λ t. Contains (prepared promised writes ∷ records) (prepared t writes)) (sym (same-eq {t = txn} {u = promised} here)) (Contains-first (prepared promised writes) records)))
    (λ rest. behind-promise (prepared promised writes) records txn (prepared-listed records txn rest))
    (or_cases (is_same_txn txn promised) (is_prepared records txn) is)
prepared-listed (epoch_begun epoch ∷ records) txn is = behind-promise (epoch_begun epoch) records txn (prepared-listed records txn is)
prepared-listed (outcome_known decided commits ∷ records) txn is = behind-promise (outcome_known decided commits) records txn (prepared-listed records txn is)

-- whether a list that begins with this record has a promise of the transaction
promise-first : (first : Record) (records : List Record) (txn : TxnId) (writes : List Read) → first ≡ prepared txn writes → is_prepared (first ∷ records) txn ≡ true
promise-first first records txn writes is =
    subst (λ (r : Record). is_prepared (r ∷ records) txn ≡ true) (sym is) (or_left (is_same_txn txn txn) (is_prepared records txn) (same-refl txn))

promise-behind : (first : Record) (records : List Record) (txn : TxnId) → is_prepared records txn ≡ true → is_prepared (first ∷ records) txn ≡ true
promise-behind (prepared promised writes) records txn is = or_right (is_same_txn txn promised) (is_prepared records txn) is
promise-behind (epoch_begun epoch) records txn is = is
promise-behind (outcome_known decided commits) records txn is = is

pub listed-prepared : (records : List Record) (txn : TxnId) (writes : List Read) → Contains records (prepared txn writes) → is_prepared records txn ≡ true
listed-prepared [] txn writes h = absurd (Contains-nil _ h)
listed-prepared (first ∷ records) txn writes h =
    ⊎_elim
    (λ here. promise-first first records txn writes here)
    (λ behind. promise-behind first records txn (listed-prepared records txn writes behind))
    (Contains-cases first records (prepared txn writes) h)

pub prepared-stays : (records : List Record) (more : Record) (txn : TxnId) → is_prepared records txn ≡ true → is_prepared (records ++ more ∷ []) txn ≡ true
prepared-stays records more txn is =
    let found = prepared-listed records txn is in
    listed-prepared (records ++ more ∷ []) txn found.0 (listed-before records more (prepared txn found.0) found.1)

pub prepared-either : (records : List Record) (more : Record) (txn : TxnId) → is_prepared (records ++ more ∷ []) txn ≡ true
    → (is_prepared records txn ≡ true) ⊎ ((writes : List Read) × (more ≡ prepared txn writes))
prepared-either records more txn is =
    let found = prepared-listed (records ++ more ∷ []) txn is in
    ⊎_elim (λ old. inl (listed-prepared records txn found.0 old)) (λ new. inr (found.0, new)) (listed-either records more (prepared txn found.0) found.1)

-- Commits.

yes-is : (txn : TxnId) (kept : Record) → says_yes txn kept ≡ true → kept ≡ outcome_known txn true
yes-is txn (outcome_known decided true) is = ap (λ t. outcome_known t true) (same-eq {t = decided} {u = txn} is)
yes-is txn (outcome_known decided false) is = absurd (false≢true is)
yes-is txn (epoch_begun epoch) is = absurd (false≢true is)
yes-is txn (prepared promised writes) is = absurd (false≢true is)

pub yes-listed : (records : List Record) (txn : TxnId) → list_any (says_yes txn) records ≡ true → Contains records (outcome_known txn true)
yes-listed [] txn is = absurd (false≢true is)
yes-listed (first ∷ records) txn is =
    ⊎_elim
    (λ here. subst (Contains (first ∷ records)) (yes-is txn first here) (Contains-first first records))
    (λ rest. Contains-behind first records (outcome_known txn true) (yes-listed records txn rest))
    (or_cases (says_yes txn first) (list_any (says_yes txn) records) is)

pub listed-yes : (records : List Record) (txn : TxnId) → Contains records (outcome_known txn true) → list_any (says_yes txn) records ≡ true
listed-yes [] txn h = absurd (Contains-nil _ h)
listed-yes (first ∷ records) txn h =
    ⊎_elim
    (λ here. or_left (says_yes txn first) (list_any (says_yes txn) records) (subst (λ (r : Record). says_yes txn r ≡ true) (sym here) (same-refl txn)))
    (λ behind. or_right (says_yes txn first) (list_any (says_yes txn) records) (listed-yes records txn behind))
    (Contains-cases first records (outcome_known txn true) h)

pub yes-stays : (records : List Record) (more : Record) (txn : TxnId) → list_any (says_yes txn) records ≡ true → list_any (says_yes txn) (records ++ more ∷ []) ≡ true
yes-stays records more txn is =
    listed-yes (records ++ more ∷ []) txn (listed-before records more (outcome_known txn true) (yes-listed records txn is))

-- Outcomes.

known-by : (b : Bool) (txn decided : TxnId) (commits outcome : Bool) (records : List Record) → is_same_txn txn decided ≡ b
    → (known records txn ≡ Some outcome → Contains records (outcome_known txn outcome))
    → (if b then Some commits else known records txn) ≡ Some outcome → Contains (outcome_known decided commits ∷ records) (outcome_known txn outcome)
known-by true txn decided commits outcome records same later is =
    subst (λ t. Contains (outcome_known decided commits ∷ records) (outcome_known t outcome)) (sym (same-eq {t = txn} {u = decided} same))
    (subst (λ c. Contains (outcome_known decided commits ∷ records) (outcome_known decided c)) (Some_inj is)
    (Contains-first (outcome_known decided commits) records))
known-by false txn decided commits outcome records apart later is =
    Contains-behind (outcome_known decided commits) records (outcome_known txn outcome) (later is)

pub known-listed : (records : List Record) (txn : TxnId) (outcome : Bool) → known records txn ≡ Some outcome → Contains records (outcome_known txn outcome)
known-listed [] txn outcome is = absurd (none-some _ is)
known-listed (outcome_known decided commits ∷ records) txn outcome is =
    known-by (is_same_txn txn decided) txn decided commits outcome records refl (known-listed records txn outcome) is
known-listed (epoch_begun epoch ∷ records) txn outcome is = Contains-behind (epoch_begun epoch) records (outcome_known txn outcome) (known-listed records txn outcome is)
known-listed (prepared promised writes ∷ records) txn outcome is =
    Contains-behind (prepared promised writes) records (outcome_known txn outcome) (known-listed records txn outcome is)
