-- Which bytes spell a record of a journal, and which are read as one.
use Rattle.std.specs.Prelude.{◌≡◌, ◌⊎◌, ℕ, ℤ, Bool, nat_le, List, if◌then◌else◌, IsFalse}
use Rattle.std.specs.List.{list_all}
use Rattle.pv_base.specs.BigEndian.{IsNumber}
use Rattle.pv_base.specs.declared.txn.TxnId.{TxnId}
use Rattle.pv_base.specs.Polyvalue.{Case}
use Rattle.pv_model.specs.Alternatives.{Read}
use Rattle.pv_format.specs.OldSpelling.{SpellsInCases}
use Rattle.pv_format.specs.PolyvalueSpelling.{SpellsPolyvalue}
use Rattle.pv_format.specs.Record.{Record, epoch_begun, prepared, outcome_known}
use Rattle.pv_format.specs.Spelling.{◌followed_by◌, IsAllowed, IsTruth, SpellsTxn, SpellsEntries}
use Rattle.pv_format.specs.Tree.{is_sure}

-- All of the values are sure.
abbrev pub are_sure : List Read → Bool
are_sure reads = list_all (λ read. is_sure read.cases) reads

-- the number of each kind of record: promised values of which one isn't sure are a kind of their own
abbrev pub record_kind : Record → ℕ
record_kind (epoch_begun epoch) = 1
record_kind (prepared txn writes) = if are_sure writes then 2 else 4
record_kind (outcome_known txn commits) = 3

module _ (Spells : List (Case ℤ) → List ℕ → Type 0) where
  -- Items with their polyvalues, at least so many, each polyvalue spelled in this way.
  abbrev pub SpellsReadsBy : ℕ → List Read → List ℕ → Type 0
  SpellsReadsBy = SpellsEntries (λ read. Spells read.cases) (λ read. read.item)

  -- What stands in a record after its kind, with its polyvalues spelled in this way. An epoch is at least 1.
  abbrev pub SpellsContentBy : Record → List ℕ → Type 0
  SpellsContentBy (epoch_begun epoch) = IsAllowed 4 (nat_le 1) epoch
  SpellsContentBy (prepared txn writes) = SpellsTxn txn followed_by SpellsReadsBy 0 writes
  SpellsContentBy (outcome_known txn commits) = SpellsTxn txn followed_by IsTruth commits

-- Items with their polyvalues, each as it is written.
abbrev pub SpellsReads : ℕ → List Read → List ℕ → Type 0
SpellsReads = SpellsReadsBy SpellsPolyvalue

-- A record is its kind and what it has besides.
abbrev pub SpellsRecord : Record → List ℕ → Type 0
SpellsRecord record_ = IsNumber 1 (record_kind record_) followed_by SpellsContentBy SpellsPolyvalue record_

-- An old spelling is that of promised values of which one isn't sure, in cases, under the kind of those that are sure.
pub record SpellsOldRecord (record_ : Record) (bytes : List ℕ) : Type 0 where
  pub txn : TxnId
  pub writes : List Read
  pub is : record_ ≡ prepared txn writes
  pub unsure : IsFalse (are_sure writes)
  pub spelled : (IsNumber 1 2 followed_by SpellsContentBy SpellsInCases record_) bytes

-- The bytes are read as the record: they spell it, as they are written or by an old spelling.
abbrev pub IsReadAs : Record → List ℕ → Type 0
IsReadAs record_ bytes = SpellsRecord record_ bytes ⊎ SpellsOldRecord record_ bytes
