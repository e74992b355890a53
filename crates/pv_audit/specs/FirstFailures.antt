-- The first of some lists of transactions of which a claim is false.
use Rattle.std.specs.Prelude.{◌≡◌, List, ◌∷◌, ◌++◌, All}
use Rattle.pv_base.specs.declared.txn.TxnId.{TxnId}

-- The claim is false of this list, and true of those before it.
pub record IsFirstFailure (Claim : List TxnId → Type 0) (lists : List (List TxnId)) (list : List TxnId) : Type 0 where
  pub before : List (List TxnId)
  pub after : List (List TxnId)
  pub split : lists ≡ before ++ list ∷ after
  pub hold : All Claim before
  pub fails : Claim list → ⊥
