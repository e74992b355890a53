-- Outputs and conditions for examples.
use Rattle.std.specs.Prelude.{ℤ, pos, true, false, List, [], ◌∷◌}
use Rattle.pv_base.specs.Polyvalue.{Case}
use Rattle.pv_base.specs.declared.txn.TxnId.{TxnId}

-- the transaction 0.1.0
abbrev pub some_txn : TxnId
some_txn = record { site = record { 0 = 0 }; epoch = 1; number = 0 }

-- 1 if the transaction commits, else 0
abbrev pub if_it_commits : List (Case ℤ)
if_it_commits =
    record { when = record { txn = some_txn; commits = false } ∷ []; value = pos 0 }
    ∷ (record { when = record { txn = some_txn; commits = true } ∷ []; value = pos 1 } ∷ [])

-- always 1
abbrev pub always : List (Case ℤ)
always = record { when = []; value = pos 1 } ∷ []
