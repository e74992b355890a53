-- Places in the order of the transactions.
use Rattle.std.specs.Prelude.{◌≡◌, List, ◌∷◌, ◌++◌, map}
use Rattle.std.specs.List.{AllPairs}
use Rattle.pv_base.specs.declared.txn.TxnId.{TxnId}
use Rattle.pv_protocol.specs.State.{Placed}

-- the transactions of an order
abbrev pub txns_of : List Placed → List TxnId
txns_of order = map (λ placed. placed.txn) order

-- No transaction has two places.
abbrev pub AreDistinct : List Placed → Type 0
AreDistinct order = AllPairs (λ placed later. placed.txn ≡ later.txn → ⊥) order

-- The one transaction stands before the other.
pub record StandsBefore (order : List Placed) (txn later : TxnId) : Type 0 where
  pub front : List Placed
  pub first : Placed
  pub between : List Placed
  pub second : Placed
  pub rest : List Placed
  pub split : order ≡ front ++ first ∷ (between ++ second ∷ rest)
  pub is_first : first.txn ≡ txn
  pub is_second : second.txn ≡ later
