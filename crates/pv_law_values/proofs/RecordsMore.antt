-- What records say with one more at their end.
use Rattle.std.proofs.Common.{◌≡◌, ℕ, Bool, true, false, Some, None, Option, List, [], ◌∷◌, ◌++◌, refl, ap, ◌∙◌}
use Rattle.std.specs.Prelude.{◌||◌, if◌then◌else◌}
use Rattle.std.specs.Option.{option_or}
use Rattle.pv_base.specs.declared.txn.TxnId.{TxnId}
use Rattle.pv_base.specs.Assignment.{is_same_txn}
use Rattle.pv_format.specs.Record.{Record, epoch_begun, prepared, outcome_known}
use Rattle.pv_model.specs.Alternatives.{Read}
use Rattle.pv_protocol.specs.Records.{known, is_prepared}

if-or : (b : Bool) (outcome : Bool) (rest more : Option Bool) → (if b then Some outcome else option_or rest more) ≡ option_or (if b then Some outcome else rest) more
if-or true outcome rest more = refl
if-or false outcome rest more = refl

or-none : (outcome : Option Bool) → option_or outcome None ≡ outcome
or-none None = refl
or-none (Some outcome) = refl

-- An outcome that is known stays; else the new record counts.
pub known-more : (records : List Record) (more : Record) (t : TxnId) → known (records ++ more ∷ []) t ≡ option_or (known records t) (known (more ∷ []) t)
known-more [] more t = refl
known-more (epoch_begun epoch ∷ records) more t = known-more records more t
known-more (prepared txn writes ∷ records) more t = known-more records more t
known-more (outcome_known txn commits ∷ records) more t =
    ap (λ rest. if is_same_txn t txn then Some commits else rest) (known-more records more t)
    ∙ if-or (is_same_txn t txn) commits (known records t) (known (more ∷ []) t)

-- A promise says no outcome.
pub known-promise : (records : List Record) (txn : TxnId) (writes : List Read) (t : TxnId) → known (records ++ prepared txn writes ∷ []) t ≡ known records t
known-promise records txn writes t = known-more records (prepared txn writes) t ∙ or-none (known records t)

-- An epoch says no outcome.
pub known-epoch : (records : List Record) (epoch : ℕ) (t : TxnId) → known (records ++ epoch_begun epoch ∷ []) t ≡ known records t
known-epoch records epoch t = known-more records (epoch_begun epoch) t ∙ or-none (known records t)

or-assoc : (a b c : Bool) → a || (b || c) ≡ (a || b) || c
or-assoc true b c = refl
or-assoc false b c = refl

-- A transaction is prepared as before, or by the new record.
pub is_prepared-more : (records : List Record) (more : Record) (t : TxnId) → is_prepared (records ++ more ∷ []) t ≡ is_prepared records t || is_prepared (more ∷ []) t
is_prepared-more [] more t = refl
is_prepared-more (epoch_begun epoch ∷ records) more t = is_prepared-more records more t
is_prepared-more (outcome_known txn commits ∷ records) more t = is_prepared-more records more t
is_prepared-more (prepared txn writes ∷ records) more t =
    ap (λ rest. is_same_txn t txn || rest) (is_prepared-more records more t)
    ∙ or-assoc (is_same_txn t txn) (is_prepared records t) (is_prepared (more ∷ []) t)

or-false : (b : Bool) → b || false ≡ b
or-false true = refl
or-false false = refl

-- An epoch promises nothing.
pub is_prepared-epoch : (records : List Record) (epoch : ℕ) (t : TxnId) → is_prepared (records ++ epoch_begun epoch ∷ []) t ≡ is_prepared records t
is_prepared-epoch records epoch t = is_prepared-more records (epoch_begun epoch) t ∙ or-false (is_prepared records t)

-- An outcome promises nothing.
pub is_prepared-outcome : (records : List Record) (txn : TxnId) (commits : Bool) (t : TxnId) → is_prepared (records ++ outcome_known txn commits ∷ []) t ≡ is_prepared records t
is_prepared-outcome records txn commits t = is_prepared-more records (outcome_known txn commits) t ∙ or-false (is_prepared records t)
