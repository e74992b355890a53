-- The outcome that literals ask for.
use Rattle.std.specs.Prelude.{Bool, List, Option}
use Rattle.std.specs.List.{find}
use Rattle.std.specs.Option.{option_map}
use Rattle.pv_base.specs.declared.literal.Literal.{Literal}
use Rattle.pv_base.specs.declared.txn.TxnId.{TxnId}
use Rattle.pv_base.specs.Assignment.{is_same_txn}

-- the outcome of the transaction, if one of the literals is on it
abbrev pub outcome_of : List Literal → TxnId → Option Bool
outcome_of literals txn = option_map (λ literal. literal.commits) (find (λ literal. is_same_txn literal.txn txn) literals)
