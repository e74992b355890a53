-- The records of a site's journal.
use Rattle.std.specs.Prelude.{ℕ, Bool, List}
use Rattle.pv_base.specs.declared.txn.TxnId.{TxnId}
use Rattle.pv_model.specs.Alternatives.{Read}

-- What a site keeps for good.
pub data Record : Type 0 where
  -- the site has started; this is its epoch, which rises at each start
  epoch_begun : (epoch : ℕ) → Record
  -- the site has promised these new values, if the transaction commits
  prepared : (txn : TxnId) (writes : List Read) → Record
  -- the site knows whether the transaction commits
  outcome_known : (txn : TxnId) (commits : Bool) → Record
