-- The transactions that cases name, as ascending lists that have each once.
use Rattle.std.specs.Prelude.{List, [], ◌∷◌, map, if◌then◌else◌}
use Rattle.pv_base.specs.declared.literal.Literal.{Literal}
use Rattle.pv_base.specs.declared.txn.TxnId.{TxnId}
use Rattle.pv_base.specs.Assignment.{is_same_txn, precedes}
use Rattle.pv_base.specs.Polyvalue.{Case}

-- the ascending list with one more transaction
abbrev pub with_txn : TxnId → List TxnId → List TxnId
with_txn txn [] = txn ∷ []
with_txn txn (first ∷ rest) =
    if is_same_txn txn first then first ∷ rest else
    (if precedes txn first then txn ∷ (first ∷ rest) else first ∷ with_txn txn rest)

-- the ascending list with some more transactions
abbrev pub with_txns : List TxnId → List TxnId → List TxnId
with_txns [] txns = txns
with_txns (txn ∷ more) txns = with_txn txn (with_txns more txns)

-- the transactions that the literals name, in their order
abbrev pub txns_in : List Literal → List TxnId
txns_in when = map (λ literal. literal.txn) when

-- the transactions that the cases name, ascending, each once
abbrev pub names_of : {V : Type 0} → List (Case V) → List TxnId
names_of [] = []
names_of (case ∷ cases) = with_txns (txns_in case.when) (names_of cases)
