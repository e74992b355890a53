-- The record that gives an item its value.
use Rattle.std.specs.Prelude.{◌≡◌, ℕ, ℤ, Bool, true, false, ◌&&◌, List, ◌∷◌, ◌++◌, Some, is_some, All}
use Rattle.pv_base.specs.Assignment.{commits}
use Rattle.pv_base.specs.Polyvalue.{Case}
use Rattle.pv_base.specs.declared.txn.TxnId.{TxnId}
use Rattle.pv_format.specs.Record.{Record, prepared}
use Rattle.pv_model.specs.Alternatives.{Read, number_at}
use Rattle.pv_protocol.specs.Shown.{written}

-- The record promises a write of the item, and its transaction commits.
abbrev pub does_write : ℕ → List TxnId → Record → Bool
does_write item assignment (prepared txn writes) = commits assignment txn && is_some (written item writes)
does_write item assignment other = false

-- No record promises a write of the item for a transaction that commits.
abbrev pub WriteNothing : ℕ → List TxnId → List Record → Type 0
WriteNothing item assignment records = All (λ kept. does_write item assignment kept ≡ false) records

-- Where an item's value comes from: no record writes it for a transaction that commits, and it is what it was before them; or
-- it is that of the last one that does.
pub data ComesFrom (item : ℕ) (assignment : List TxnId) (old : ℤ) (records : List Record) (value : ℤ) : Type 0 where
  nothing : WriteNothing item assignment records → value ≡ old → ComesFrom item assignment old records value
  write : (before after : List Record) (txn : TxnId) (writes : List Read) (cases : List (Case ℤ)) → records ≡ before ++ prepared txn writes ∷ after
      → commits assignment txn ≡ true → written item writes ≡ Some cases → WriteNothing item assignment after → value ≡ number_at cases assignment
      → ComesFrom item assignment old records value
