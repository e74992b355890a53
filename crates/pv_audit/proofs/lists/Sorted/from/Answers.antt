-- A sorted list is parted by who precedes the transaction, and the search ends there.
use Rattle.std.proofs.Common.{rules, drop, sym, subst}
use Rattle.std.specs.List.Sorted.{IsPartitionedBy}
use Rattle.std.proofs.lemmas.List.Sorted.{IsPartitionPoint-from_clause}
use Rattle.pv_audit.specs.Sorted.{IsFrom}
use Rattle.pv_audit.proofs.SortedLists.{parted, parted-by}
use Rattle.pv_base.specs.Assignment.{precedes}
use Rattle.pv_base.specs.declared.txn.TxnId.{TxnId}
use Rattle.pv_audit.proofs.lists.Sorted.from.Goals as goal

pub returns : goal.returns
returns c = λ others sorted.
    let before = λ (other : TxnId). precedes other c.args.txn in
    let items = c.args.self.now.txns.items in
    let seen = c.deref.result.now in
    let place = c.partition_point-place.result in
    let point =
    IsPartitionPoint-from_clause before _ _ c.partition_point-place.ensures.partitioned
    (subst (IsPartitionedBy before) (sym c.deref.ensures.value) (parted-by c.args.txn items others sorted)) (λ a r q k. search rules) in
    let from : IsFrom c.args.txn seen (drop place seen) = parted c.args.txn seen place c.partition_point-place.ensures.bound point in
    rw (c.split_at.ensures.back, c.deref-2.ensures.value) (rw c.deref.ensures.value at from)
