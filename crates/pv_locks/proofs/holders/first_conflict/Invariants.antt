use Rattle.std.proofs.Common.{◌≡◌, drop}
use Rattle.pv_locks.proofs.holders.first_conflict.Given as goal
use Rattle.pv_locks.specs.Holders.{first_held}

-- Nothing is in the way of the wants so far.
abbrev pub invariant-loop-want : goal.invariant-loop-want
invariant-loop-want l = first_held l.holders (drop l.want-index l.wants) ≡ first_held l.holders l.wants
