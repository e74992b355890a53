-- Assignments that are cut to some transactions.
use Rattle.std.specs.Prelude.{List, filter}
use Rattle.pv_base.specs.Assignment.{commits}
use Rattle.pv_base.specs.declared.txn.TxnId.{TxnId}

-- the part of the assignment that is of these transactions: no other one commits
abbrev pub among : List TxnId → List TxnId → List TxnId
among txns assignment = filter (commits txns) assignment
