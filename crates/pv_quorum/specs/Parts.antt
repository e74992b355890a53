-- Records by their parts.
use Rattle.std.specs.Prelude.{ℕ, List, ◌++◌}
use Rattle.pv_base.specs.BigEndian.{big_endian}
use Rattle.pv_base.specs.declared.txn.TxnId.{TxnId}
use Rattle.pv_law_quorum.specs.Ballot.{Ballot}
use Rattle.pv_quorum.specs.Spelling.{txn_bytes, ballot_bytes}

-- what every record begins with
abbrev pub front_bytes : ℕ → TxnId → Ballot → List ℕ
front_bytes kind txn ballot = big_endian 1 kind ++ (txn_bytes txn ++ ballot_bytes ballot)
