-- The sides of a test.
use Rattle.std.specs.Prelude.{◌≡◌, List}
use Rattle.pv_base.specs.declared.txn.TxnId.{TxnId}
use Rattle.pv_base.specs.Polyvalue.{Case, IsCanonical, NamesOnlyAfter}

-- Both sides of a test on the transaction are canonical, name only later transactions, and differ.
pub record AreSides {V : Type 0} (txn : TxnId) (aborted committed : List (Case V)) : Type 0 where
  pub aborted_canonical : IsCanonical aborted
  pub committed_canonical : IsCanonical committed
  pub aborted_after : NamesOnlyAfter txn aborted
  pub committed_after : NamesOnlyAfter txn committed
  pub differ : aborted ≡ committed → ⊥
