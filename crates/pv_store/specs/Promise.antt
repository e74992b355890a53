-- What an item's value becomes with one more promise.
use Rattle.std.specs.Prelude.{◌≡◌, ℕ, ℤ, ◌≤◌, Bool, List, [], ◌∷◌, ◌++◌, length, Option, Some, None}
use Rattle.pv_base.specs.Catalog.{Declared}
use Rattle.pv_base.specs.declared.limits.TheConstants.{HELD_NAMES}
use Rattle.pv_base.specs.declared.literal.Literal.{Literal}
use Rattle.pv_base.specs.declared.txn.TxnId.{TxnId}
use Rattle.pv_base.specs.Named.{names_of}
use Rattle.pv_base.specs.Polyvalue.{Case}
use Rattle.pv_format.specs.Record.{Record, prepared}
use Rattle.pv_model.specs.Alternatives.{Read}
use Rattle.pv_protocol.specs.Shown.{written, shown_within}
use Rattle.pv_store.specs.Held.{AreKnown, outcome_in}

-- the literals, with the transaction's outcome in front if it is known
abbrev pub with_known : TxnId → Option Bool → List Literal → List Literal
with_known txn None literals = literals
with_known txn (Some commits) literals = record { txn = txn; commits = commits } ∷ literals

-- the outcomes of these transactions that are known
abbrev pub known_among : List (TxnId × Bool) → List TxnId → List Literal
known_among outcomes [] = []
known_among outcomes (txn ∷ txns) = with_known txn (outcome_in outcomes txn) (known_among outcomes txns)

-- An item's value after a front of the records is this one, and the transaction's promise writes that new one.
pub record IsWritten (outcomes : List (TxnId × Bool)) (txn : TxnId) (new old : List (Case ℤ))
    (catalog : Declared) (records front : List Record) (item : ℕ) (writes : List Read) : Type 0 where
  pub known : AreKnown outcomes records
  pub shown : old ≡ shown_within catalog records front item
  pub narrow : length (names_of old) ≤ HELD_NAMES
  pub written : written item writes ≡ Some new

-- the item's value after the promise
abbrev pub after_promise : Declared → List Record → List Record → TxnId → List Read → ℕ → List (Case ℤ)
after_promise catalog records front txn writes item = shown_within catalog records (front ++ prepared txn writes ∷ []) item
