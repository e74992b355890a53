use Rattle.std.proofs.Common.{rules}
use Rattle.std.proofs.lemmas.List.Sorted.{IsPartitionPoint-from_clause}
use Rattle.pv_locks.proofs.HolderLemmas.{holder-order}
use Rattle.pv_locks.proofs.PutLemmas.{in-place-parted, place-is}
use Rattle.pv_locks.proofs.holders.place_of.Goals as goal
use Rattle.pv_locks.specs.Holders.{comes_before}
use Rattle.pv_locks.specs.declared.holders.Holder.{Holder}

-- The holders are parted by what comes before this one, and the search ends there.
pub returns : goal.returns
returns c =
    let before = λ (other : Holder). comes_before other c.args.holder in
    place-is before c.args.holders.now _ c.partition_point.ensures.bound
    (IsPartitionPoint-from_clause before _ _ c.partition_point.ensures.partitioned (in-place-parted comes_before holder-order c.args.holder c.args.holders.now c.requires) (λ a r q k. search rules))
