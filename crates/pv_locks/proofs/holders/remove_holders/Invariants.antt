use Rattle.std.proofs.Common.{◌≡◌, List, drop, vec_capacity}
use Rattle.pv_locks.proofs.holders.remove_holders.Given as goal
use Rattle.pv_locks.specs.Holders.{AreInPlace, with_holders}
use Rattle.pv_locks.specs.declared.holders.Holder.{Holder}

-- The wants are taken out from the first to the last.
abbrev pub invariant-loop-want : goal.invariant-loop-want
invariant-loop-want l = record {
  left : (others : List Holder) → l.fn.holders.items ≡ with_holders l.txn l.wants others → l.holders.items ≡ with_holders l.txn (drop l.want-index l.wants) others;
  order : AreInPlace l.holders.items;
  same : vec_capacity l.holders ≡ vec_capacity l.fn.holders;
}
