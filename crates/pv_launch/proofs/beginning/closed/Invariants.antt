-- The disks of the sites come behind the others, the last one first.
use Rattle.std.proofs.Common.{◌≡◌, ◌+◌, ◌≤◌, ◌∷◌, ◌++◌, length, map, reverse, vec_capacity}
use Rattle.pv_launch.specs.Disks.{disk_of}
use Rattle.pv_launch.proofs.beginning.closed.Given as goal

abbrev pub invariant-loop-site : goal.invariant-loop-site
invariant-loop-site g l = record {
  is : l.disks.items ++ map disk_of (reverse l.sites.items) ≡ l.fn.disks.items ++ (l.fn.disk ∷ map disk_of (reverse l.fn.sites.items));
  room : length l.disks.items + length l.sites.items ≤ vec_capacity l.disks;
}

abbrev pub decreases-loop-site : goal.decreases-loop-site
decreases-loop-site g l = length l.sites.items
