-- How a transaction is printed.
use Rattle.std.specs.Prelude.{ℕ, List, ◌++◌, codes}
use Rattle.std.specs.Fmt.{decimal}
use Rattle.pv_base.specs.declared.txn.TxnId.{TxnId}

-- The site, the epoch and the number in decimal, with dots between.
abbrev pub txn_text : TxnId → List ℕ
txn_text txn = decimal txn.site.0 ++ (codes "." ++ (decimal txn.epoch ++ (codes "." ++ decimal txn.number)))
