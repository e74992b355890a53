-- Where the work on a transaction stands.
use Rattle.std.specs.Prelude.{◌≡◌, ℕ, ◌<◌, List, length, slice_index_or}
use Rattle.pv_base.specs.declared.txn.TxnId.{TxnId}
use Rattle.pv_coord.specs.Work.{Work, txn_of}

-- The work at the place is on the transaction.
pub record IsPlace (works : List Work) (txn : TxnId) (place : ℕ) : Type 0 where
  pub within : place < length works
  pub same : (d : Work) → txn_of (slice_index_or works place d) ≡ txn
