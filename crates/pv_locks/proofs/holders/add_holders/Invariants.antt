use Rattle.std.proofs.Common.{◌≡◌, ◌+◌, ◌≤◌, length, vec_capacity}
use Rattle.pv_locks.proofs.holders.add_holders.Given as goal
use Rattle.pv_locks.specs.Holders.{AreInPlace, with_holders}

-- The wants are added from the last to the first.
abbrev pub invariant-loop-want : goal.invariant-loop-want
invariant-loop-want l = record {
  added : with_holders l.txn l.left l.holders.items ≡ with_holders l.txn l.fn.wants l.fn.holders.items;
  order : AreInPlace l.holders.items;
  room : length l.holders.items + length l.left ≤ vec_capacity l.holders;
  same : vec_capacity l.holders ≡ vec_capacity l.fn.holders;
}

abbrev pub decreases-loop-want : goal.decreases-loop-want
decreases-loop-want l = length l.left
