-- A record by its parts: its kind as it was read, and what it has besides.
use Rattle.std.specs.Prelude.{◌≡◌, ◌⊎◌, ℕ, zero, suc, Bool, false, not, List, Option, IfSome, IsTrue, ⊤}
use Rattle.pv_base.specs.BigEndian.{IsNumber}
use Rattle.pv_base.specs.declared.txn.TxnId.{TxnId}
use Rattle.pv_bytes.specs.Reading.{Rest}
use Rattle.pv_model.specs.Alternatives.{Read}
use Rattle.pv_fields.specs.Decoding.{Passes}
use Rattle.pv_format.specs.FirstFault.{Fault, HasFault}
use Rattle.pv_format.specs.Layout.{Layout, record_layout}
use Rattle.pv_format.specs.OldSpelling.{SpellsInCases}
use Rattle.pv_format.specs.PolyvalueSpelling.{SpellsPolyvalue}
use Rattle.pv_format.specs.Record.{Record, epoch_begun, prepared, outcome_known}
use Rattle.pv_format.specs.RecordSpelling.{SpellsContentBy, are_sure}
use Rattle.pv_format.specs.Spelling.{◌followed_by◌}

-- The record is a promise.
abbrev pub IsPromise : Record → Type 0
IsPromise (prepared txn writes) = ⊤
IsPromise record_ = ⊥

-- The record may stand behind this kind.
abbrev pub HasKind : ℕ → Record → Type 0
HasKind kind (epoch_begun epoch) = kind ≡ 1
HasKind kind (prepared txn writes) = (kind ≡ 2) ⊎ (kind ≡ 4)
HasKind kind (outcome_known txn commits) = kind ≡ 3

-- what stands in a record after this kind
abbrev pub SpellsContentOf : ℕ → Record → List ℕ → Type 0
SpellsContentOf (suc (suc zero)) record_ = SpellsContentBy SpellsInCases record_
SpellsContentOf kind record_ = SpellsContentBy SpellsPolyvalue record_

-- The record promises sure values alone.
abbrev pub promises_sure : Record → Bool
promises_sure (prepared txn writes) = are_sure writes
promises_sure record_ = false

-- The record promises values of which one isn't sure.
abbrev pub promises_unsure : Record → Bool
promises_unsure (prepared txn writes) = not (are_sure writes)
promises_unsure record_ = false

-- A record was read under the kind of promises with a value that isn't sure, and promises sure values alone.
pub record IsOnlySure (old new : Rest) : Type 0 where
  pub txn : TxnId
  pub writes : List Read
  pub sure : IsTrue (are_sure writes)
  pub passes : Passes (IsNumber 1 4 followed_by SpellsContentBy SpellsPolyvalue (prepared txn writes)) record_layout old new

-- No record was read. Where there was memory, the fault is the first by the layout, whatever is to come after it, or all is right but that no value is one that isn't sure.
abbrev pub IsStopped : Rest → Rest → Option Fault → Type 0
IsStopped old new found = IfSome found (λ fault. ((next : Layout) → HasFault (record_layout next) old.place old.left fault) ⊎ IsOnlySure old new)
