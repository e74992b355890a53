-- Sorted lists of transactions.
use Rattle.std.specs.Prelude.{◌≡◌, false, List, ◌++◌, All, IsTrue}
use Rattle.std.specs.List.Sorted.{IsPermutation, IsSorted}
use Rattle.pv_base.specs.Assignment.{precedes, txn_cmp}
use Rattle.pv_base.specs.declared.txn.TxnId.{TxnId}

-- The list has the same transactions as the other, each as often, and none precedes one before it.
pub record AreSorted (txns others : List TxnId) : Type 0 where
  pub permutation : IsPermutation others txns
  pub sorted : IsSorted txn_cmp txns

-- The rest of the list begins with the first transaction that doesn't precede this one.
pub record IsFrom (txn : TxnId) (txns rest : List TxnId) : Type 0 where
  pub front : List TxnId
  pub split : txns ≡ front ++ rest
  pub before : All (λ other. IsTrue (precedes other txn)) front
  pub behind : All (λ other. precedes other txn ≡ false) rest
