-- What a map by transaction says.
use Rattle.std.specs.Prelude.{ℕ, List, None, false}
use Rattle.std.specs.Map.{lookup}
use Rattle.std.specs.Option.{unwrap_or}
use Rattle.pv_base.specs.contracts.txn.TxnIdPartialEq.TheImpl as txn_eq
use Rattle.pv_base.specs.declared.txn.TxnId.{TxnId}
use Rattle.pv_quorum.specs.declared.known.Known.{Known}

-- What is known, as pairs of a transaction and what is known of it, and for how many more there is room.
pub record Remembered : Type 0 where
  pub known : List (TxnId × Known)
  pub room : ℕ

-- what is known of a transaction of which there are no records
abbrev pub nothing : Known
nothing = record { promised = None; last = None; both = false; proposal = None }

-- what is known of a transaction
abbrev pub known_at : List (TxnId × Known) → TxnId → Known
known_at pairs txn = unwrap_or (lookup (txn_eq.ghosts.eq txn) pairs) nothing
