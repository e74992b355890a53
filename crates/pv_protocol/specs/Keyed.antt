-- Lists of things that belong to transactions, ascending, one of each transaction at most.
use Rattle.std.specs.Prelude.{not, map, List, [], ◌∷◌, filter, find, Option, if◌then◌else◌}
use Rattle.pv_base.specs.declared.txn.TxnId.{TxnId}
use Rattle.pv_base.specs.Assignment.{AreAscending, is_same_txn, precedes}

module _ {X : Type 0} (txn_of : X → TxnId) where
  -- what belongs to the transaction, if anything does
  abbrev pub of_txn : TxnId → List X → Option X
  of_txn txn list = find (λ x. is_same_txn txn (txn_of x)) list

  -- the list with this one, in place of what belonged to its transaction
  abbrev pub with_one : X → List X → List X
  with_one x [] = x ∷ []
  with_one x (first ∷ rest) =
      if is_same_txn (txn_of x) (txn_of first) then x ∷ rest else
      (if precedes (txn_of x) (txn_of first) then x ∷ (first ∷ rest) else first ∷ with_one x rest)

  -- the list without what belongs to the transaction
  abbrev pub without : TxnId → List X → List X
  without txn list = filter (λ x. not (is_same_txn txn (txn_of x))) list

  -- They stand in the order of their transactions, one of each at most.
  abbrev pub AreInOrder : List X → Type 0
  AreInOrder list = AreAscending (map txn_of list)
