-- The layer of sequence: conflicting writes are promised in the order of the transactions.
use Rattle.std.specs.Prelude.{◌≡◌, ℕ, true, IsSome, List, Contains}
use Rattle.pv_base.specs.declared.txn.TxnId.{TxnId}
use Rattle.pv_format.specs.Record.{prepared}
use Rattle.pv_law_acts.specs.Seen.{records_at, HoldsAgeless}
use Rattle.pv_law_agreement.specs.Places.{StandsBefore}
use Rattle.pv_law_agreement.specs.Promises.{AreInSequence}
use Rattle.pv_model.specs.Alternatives.{Read}
use Rattle.pv_model.specs.ProgramLaws.{assigns}
use Rattle.pv_protocol.specs.Shown.{written}
use Rattle.pv_protocol.specs.State.{Grant, Placed}
use Rattle.pv_protocol.specs.World.{World}

-- At each site writes of one item are promised in the order, and whoever still holds it exclusively under the grant that the order
-- names comes after those who have promised.
pub record IsInSequence (world : World) : Type 0 where
  pub promises : (n : ℕ) → AreInSequence world.order (records_at world n)
  pub holders : (n : ℕ) (txn : TxnId) (writes : List Read) (item : ℕ) → Contains (records_at world n) (prepared txn writes) → IsSome (written item writes)
      → (placed : Placed) → Contains world.order placed → (grant : Grant) → HoldsAgeless world n grant → grant.txn ≡ placed.txn
      → Contains placed.grants (record { site = n; grant = grant.id }) → (placed.txn ≡ txn → ⊥) → assigns placed.program item ≡ true
      → StandsBefore world.order txn placed.txn
