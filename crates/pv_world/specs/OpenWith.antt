-- Whether a transaction is open, by the grants that it took.
use Rattle.std.specs.Prelude.{Bool, not, ◌&&◌, is_some, List}
use Rattle.std.specs.List.{list_all}
use Rattle.pv_base.specs.declared.txn.TxnId.{TxnId}
use Rattle.pv_protocol.specs.Committed.{entry_of, is_bound, is_committed}
use Rattle.pv_protocol.specs.State.{TakenGrant}
use Rattle.pv_protocol.specs.World.{World}

-- The transaction isn't committed, its site works on it, and each participant is bound by it.
abbrev pub is_open_with : World → TxnId × List TakenGrant → Bool
is_open_with world taken = not (is_committed world taken.0) && (is_some (entry_of world taken.0) && list_all (is_bound world taken.0) taken.1)
