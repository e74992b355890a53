-- What a store holds of its records, and when that is what they say.
use Rattle.std.specs.Prelude.{◌≡◌, ℕ, ℤ, ◌<◌, ◌≤◌, ◌==◌, Bool, true, false, List, [], ◌∷◌, length, slice_get, Option, Some, None, if◌then◌else◌, IsTrue}
use Rattle.std.specs.List.{list_any}
use Rattle.pv_base.specs.Assignment.{is_same_txn}
use Rattle.pv_base.specs.Catalog.{Declared}
use Rattle.pv_base.specs.declared.limits.TheConstants.{HELD_NAMES}
use Rattle.pv_base.specs.declared.txn.TxnId.{TxnId}
use Rattle.pv_base.specs.Named.{names_of}
use Rattle.pv_base.specs.Polyvalue.{Case, names}
use Rattle.pv_format.specs.Record.{Record}
use Rattle.pv_model.specs.Alternatives.{Read}
use Rattle.pv_protocol.specs.Lock.{is_home}
use Rattle.pv_protocol.specs.Records.{known, is_prepared}
use Rattle.pv_protocol.specs.Shown.{shown_within}
use Rattle.pv_store.specs.Kept.{Places, has_place}

-- the outcomes that are known, and how many more there is room for
pub record KnownOutcomes : Type 0 where
  pub outcomes : List (TxnId × Bool)
  pub room : ℕ

-- the outcome of the transaction, if it is among these
abbrev pub outcome_in : List (TxnId × Bool) → TxnId → Option Bool
outcome_in [] txn = None
outcome_in (outcome ∷ outcomes) txn = if is_same_txn txn outcome.0 then Some outcome.1 else outcome_in outcomes txn

-- the transactions that are prepared, and how many more there is room for
pub record Promised : Type 0 where
  pub txns : List TxnId
  pub room : ℕ

-- The transaction is among these.
abbrev pub is_promised : List TxnId → TxnId → Bool
is_promised txns txn = list_any (is_same_txn txn) txns

-- The outcomes are those that the records have.
abbrev pub AreKnown : List (TxnId × Bool) → List Record → Type 0
AreKnown outcomes records = (txn : TxnId) → outcome_in outcomes txn ≡ known records txn

-- The transactions are those of the prepared records.
abbrev pub ArePrepared : List TxnId → List Record → Type 0
ArePrepared txns records = (txn : TxnId) → is_promised txns txn ≡ is_prepared records txn

-- by item, the value if the item is the site's
abbrev pub Values : Type 0
Values = List (Option (List (Case ℤ)))

module _ (catalog : Declared) (site : ℕ) where
  -- the item's value after a front of the records, with the outcomes that all records have, if the item is the site's
  abbrev pub value_here : List Record → List Record → ℕ → Option (List (Case ℤ))
  value_here records front item = if is_home catalog site item then Some (shown_within catalog records front item) else None

  -- The values are those of the site's items after a front of the records, and none names too many outcomes.
  pub record AreShown (records front : List Record) (values : Values) : Type 0 where
    pub all : length values ≡ length catalog.items
    pub each : (item : ℕ) → item < length catalog.items → slice_get values item ≡ Some (value_here records front item)
    pub narrow : (item : ℕ) → IsTrue (is_home catalog site item) → length (names_of (shown_within catalog records front item)) ≤ HELD_NAMES

  -- Each item of the site has a place at each transaction that its value names.
  abbrev pub ArePlaced : List Record → List Record → Places → Type 0
  ArePlaced records front places =
      (item : ℕ) (txn : TxnId) → IsTrue (is_home catalog site item) → IsTrue (names (shown_within catalog records front item) txn) →
      has_place places txn item ≡ true

-- the value at an item, or the last of the new ones if there is one of the item
abbrev pub replaced_at : ℕ → List Read → Option (List (Case ℤ)) → Option (List (Case ℤ))
replaced_at item [] value = value
replaced_at item (read ∷ reads) value = replaced_at item reads (if read.item == item then Some read.cases else value)

-- The value, if there is one, names the transaction.
abbrev pub does_name : Option (Option (List (Case ℤ))) → TxnId → Bool
does_name (Some (Some cases)) txn = names cases txn
does_name other txn = false

-- By transaction stand exactly the items whose values name it.
abbrev pub AreTouched : Values → Places → Type 0
AreTouched values touched = (item : ℕ) (txn : TxnId) → has_place touched txn item ≡ does_name (slice_get values item) txn
