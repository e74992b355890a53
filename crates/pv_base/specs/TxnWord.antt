-- A transaction as one number, to be hashed.
use Rattle.std.specs.Prelude.{ℕ, ◌+◌, ◌*◌, ◌%◌, ◌^◌}
use Rattle.pv_base.specs.declared.txn.TxnId.{TxnId}

-- The site and the epoch above the number, as far as a word has room for the epoch.
abbrev pub word_of : TxnId → ℕ
word_of txn = (txn.epoch * 256 % 2 ^ 32 + txn.site.0) % 2 ^ 32 * 2 ^ 32 + txn.number
