-- Transactions in a list, and those of literals.
use Rattle.std.specs.Prelude.{Bool, List, IsTrue, ◌⊎◌, ◌↔◌}
use Rattle.std.specs.List.{Contains, list_any}
use Rattle.pv_base.specs.declared.literal.Literal.{Literal}
use Rattle.pv_base.specs.declared.txn.TxnId.{TxnId}
use Rattle.pv_base.specs.Assignment.{is_same_txn}

-- One of the literals is on the transaction.
abbrev pub mentions : List Literal → TxnId → Bool
mentions when txn = list_any (λ literal. is_same_txn txn literal.txn) when

-- The new list has what the old one has, and what is in the set, and nothing else. The order is free, and so is how often each stands there.
abbrev pub Adds : (TxnId → Bool) → List TxnId → List TxnId → Type 0
Adds set old new = (txn : TxnId) → Contains new txn ↔ (Contains old txn ⊎ IsTrue (set txn))
