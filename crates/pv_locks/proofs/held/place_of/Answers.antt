use Rattle.std.proofs.Common.{rules}
use Rattle.std.proofs.lemmas.List.Sorted.{IsPartitionPoint-from_clause}
use Rattle.pv_locks.proofs.KeyedLemmas.{before, order-parted}
use Rattle.pv_locks.proofs.PutLemmas.{place-is}
use Rattle.pv_locks.proofs.held.place_of.Goals as goal
use Rattle.pv_protocol.specs.State.{Grant}

-- The grants are parted by who precedes the transaction, and the search ends there.
pub returns : goal.returns
returns c =
    let before = before (λ (g : Grant). g.txn) c.args.txn in
    place-is before c.args.grants.now _ c.partition_point.ensures.bound
    (IsPartitionPoint-from_clause before _ _ c.partition_point.ensures.partitioned (order-parted (λ (g : Grant). g.txn) c.args.txn c.args.grants.now c.requires) (λ a r q k. search rules))
