-- What an assignment says with the known outcomes put in.
use Rattle.std.proofs.Common.{◌≡◌, Bool, true, false, Some, None, Option, List, [], ◌∷◌, ◌++◌, refl, sym, ap, ◌∙◌}
use Rattle.std.specs.Prelude.{is_none, if◌then◌else◌}
use Rattle.pv_base.specs.declared.txn.TxnId.{TxnId}
use Rattle.pv_base.specs.Assignment.{is_same_txn, commits, with_outcome}
use Rattle.pv_format.specs.Record.{Record, epoch_begun, prepared, outcome_known}
use Rattle.pv_base.proofs.AssignmentLemmas.{same-sym, commits-with, commits-with-alike}
use Rattle.pv_protocol.specs.Records.{known, is_undecided, choice}

-- the known outcome, or the assigned one
abbrev pub or_assigned : Option Bool → Bool → Bool
or_assigned None assigned = assigned
or_assigned (Some outcome) assigned = outcome

or-assigned-if : (b outcome assigned : Bool) (rest : Option Bool) → or_assigned (if b then Some outcome else rest) assigned ≡ (if b then outcome else or_assigned rest assigned)
or-assigned-if true outcome assigned rest = refl
or-assigned-if false outcome assigned rest = refl

-- A transaction commits as is known, and else as assigned.
pub choice-is : (records : List Record) (a : List TxnId) (t : TxnId) → commits (choice records a) t ≡ or_assigned (known records t) (commits a t)
choice-is [] a t = refl
choice-is (epoch_begun epoch ∷ records) a t = choice-is records a t
choice-is (prepared txn writes ∷ records) a t = choice-is records a t
choice-is (outcome_known txn outcome ∷ records) a t =
    commits-with txn outcome (choice records a) t
    ∙ ap (λ b. if b then outcome else commits (choice records a) t) (same-sym txn t)
    ∙ ap (λ c. if is_same_txn t txn then outcome else c) (choice-is records a t)
    ∙ sym (or-assigned-if (is_same_txn t txn) outcome (commits a t) (known records t))

alike-by : (outcome : Option Bool) (c d : Bool) → (is_none outcome ≡ true → c ≡ d) → or_assigned outcome c ≡ or_assigned outcome d
alike-by None c d alike = alike refl
alike-by (Some outcome) c d alike = refl

-- Assignments that agree on a transaction that isn't known agree on it with the known outcomes put in.
pub choice-alike : (records : List Record) (a b : List TxnId) (t : TxnId) → (is_undecided records t ≡ true → commits a t ≡ commits b t)
    → commits (choice records a) t ≡ commits (choice records b) t
choice-alike records a b t alike =
    choice-is records a t ∙ alike-by (known records t) (commits a t) (commits b t) alike ∙ sym (choice-is records b t)

-- A known transaction commits as is known.
pub choice-known : (records : List Record) (a : List TxnId) (t : TxnId) (outcome : Bool) → known records t ≡ Some outcome → commits (choice records a) t ≡ outcome
choice-known records a t outcome is = choice-is records a t ∙ ap (λ o. or_assigned o (commits a t)) is

-- the assignment with the outcome that a record says, if it says one
abbrev pub with_recorded : Record → List TxnId → List TxnId
with_recorded (outcome_known txn outcome) a = with_outcome txn outcome a
with_recorded other a = a

choice-one : (more : Record) (a : List TxnId) → choice (more ∷ []) a ≡ with_recorded more a
choice-one (epoch_begun epoch) a = refl
choice-one (prepared txn writes) a = refl
choice-one (outcome_known txn outcome) a = refl

-- One more record at the end says its outcome first, and so the others count before it.
pub choice-more : (records : List Record) (more : Record) (a : List TxnId) → choice (records ++ more ∷ []) a ≡ choice records (with_recorded more a)
choice-more [] more a = choice-one more a
choice-more (epoch_begun epoch ∷ records) more a = choice-more records more a
choice-more (prepared txn writes ∷ records) more a = choice-more records more a
choice-more (outcome_known txn outcome ∷ records) more a = ap (with_outcome txn outcome) (choice-more records more a)

-- What a record says doesn't part assignments that agree on a transaction.
pub recorded-alike : (more : Record) (a b : List TxnId) (t : TxnId) → commits a t ≡ commits b t → commits (with_recorded more a) t ≡ commits (with_recorded more b) t
recorded-alike (epoch_begun epoch) a b t alike = alike
recorded-alike (prepared txn writes) a b t alike = alike
recorded-alike (outcome_known txn outcome) a b t alike = commits-with-alike txn outcome a b t alike
