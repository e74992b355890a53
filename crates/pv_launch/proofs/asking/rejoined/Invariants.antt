-- What was asked comes behind the others, the last one first.
use Rattle.std.proofs.Common.{◌≡◌, ◌+◌, ◌≤◌, ◌∷◌, ◌++◌, length, reverse, vec_capacity}
use Rattle.pv_launch.proofs.asking.rejoined.Given as goal

abbrev pub invariant-loop-disk : goal.invariant-loop-disk
invariant-loop-disk g l = record {
  is : l.disks.items ++ reverse l.asked.items ≡ l.fn.disks.items ++ (l.fn.disk ∷ reverse l.fn.asked.items);
  room : length l.disks.items + length l.asked.items ≤ vec_capacity l.disks;
}

abbrev pub decreases-loop-disk : goal.decreases-loop-disk
decreases-loop-disk g l = length l.asked.items
