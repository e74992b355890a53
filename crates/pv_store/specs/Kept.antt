-- What a store keeps, and the changes that are planned on it.
use Rattle.std.specs.Prelude.{◌≡◌, ℕ, ℤ, ◌<◌, ◌≤◌, ◌==◌, length, map, Bool, true, false, List, [], ◌∷◌, ◌++◌, if◌then◌else◌, All, IsTrue}
use Rattle.std.specs.List.{list_any}
use Rattle.pv_base.specs.Assignment.{is_same_txn}
use Rattle.pv_base.specs.Catalog.{Declared}
use Rattle.pv_base.specs.declared.txn.TxnId.{TxnId}
use Rattle.pv_base.specs.declared.limits.TheConstants.{HELD_NAMES}
use Rattle.pv_base.specs.Named.{names_of}
use Rattle.pv_base.specs.Polyvalue.{Case, names}
use Rattle.pv_format.specs.Record.{Record, epoch_begun, prepared, outcome_known}
use Rattle.pv_model.specs.Alternatives.{Read}
use Rattle.pv_protocol.specs.Here.{Here}
use Rattle.pv_protocol.specs.Lock.{is_home}
use Rattle.pv_protocol.specs.Shown.{shown}

-- by transaction, the items whose values may name it
abbrev pub Places : Type 0
Places = List (TxnId × List ℕ)

-- the transactions of the places
abbrev pub txns_of : Places → List TxnId
txns_of places = map (λ place. place.0) places

-- The item is among those whose values may name the transaction.
abbrev pub has_place : Places → TxnId → ℕ → Bool
has_place [] txn item = false
has_place (place ∷ places) txn item =
    if is_same_txn txn place.0 then list_any (λ other. item == other) place.1 else has_place places txn item

-- What there is room for without asking for memory: so many more prepared transactions and known outcomes, and values of these items that
-- name these transactions.
pub record Room : Type 0 where
  pub promises : ℕ
  pub outcomes : ℕ
  pub places : Places

-- A site's records, and which site's they are. The room is no content: only planning and applying change it.
pub record Kept : Type 0 where
  pub catalog : Declared
  pub site : ℕ
  pub records : List Record
  pub room : Room

-- The contents are the same; there may be other room.
pub record HasSameContents (before after : Kept) : Type 0 where
  pub catalog : after.catalog ≡ before.catalog
  pub site : after.site ≡ before.site
  pub records : after.records ≡ before.records

-- The store is that of the running site.
pub record IsStoreOf (here : Here) (kept : Kept) : Type 0 where
  pub site : kept.site ≡ here.me
  pub catalog : kept.catalog ≡ here.setup.catalog
  pub records : kept.records ≡ here.records

-- one more record, and the new shown values that come with it
pub record Planned : Type 0 where
  pub appended : Record
  pub values : List Read

-- the item's value, or the last of the new ones if there is one of it
abbrev pub replaced : ℕ → List Read → List (Case ℤ) → List (Case ℤ)
replaced item [] cases = cases
replaced item (value ∷ values) cases = replaced item values (if value.item == item then value.cases else cases)

-- There is room for what the record itself says.
abbrev pub HasRoom : Room → Record → Type 0
HasRoom room (epoch_begun epoch) = Unit {0}
HasRoom room (prepared txn writes) = 0 < room.promises
HasRoom room (outcome_known txn commits) = 0 < room.outcomes

-- The change may be applied to a store that keeps this. Its values are those that are new with its record, none names too many outcomes, and
-- there is room for them.
pub record IsPlannedOn (kept : Kept) (change : Planned) : Type 0 where
  pub here : All (λ value. IsTrue (is_home kept.catalog kept.site value.item)) change.values
  pub shown_then : (item : ℕ) → IsTrue (is_home kept.catalog kept.site item) →
      shown kept.catalog (kept.records ++ change.appended ∷ []) item ≡ replaced item change.values (shown kept.catalog kept.records item)
  pub narrow : (item : ℕ) → IsTrue (is_home kept.catalog kept.site item) →
      length (names_of (shown kept.catalog (kept.records ++ change.appended ∷ []) item)) ≤ HELD_NAMES
  pub placed : (item : ℕ) (txn : TxnId) → IsTrue (is_home kept.catalog kept.site item) →
      IsTrue (names (shown kept.catalog (kept.records ++ change.appended ∷ []) item) txn) → has_place kept.room.places txn item ≡ true
  -- Each new value has its places, also one that a later value of the same item replaces.
  pub told : All (λ value. (txn : TxnId) → IsTrue (names value.cases txn) → has_place kept.room.places txn value.item ≡ true) change.values
  pub room : HasRoom kept.room change.appended
