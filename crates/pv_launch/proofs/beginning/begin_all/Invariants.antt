-- The sites behind the disks that are left are started.
use Rattle.std.proofs.Common.{◌≤◌, All, length, vec_capacity}
use Rattle.pv_launch.proofs.OrderedLemmas.{IsUnderWay}
use Rattle.pv_launch.specs.Disks.{IsBegunOn, IsEmpty}
use Rattle.pv_launch.proofs.beginning.begin_all.Given as goal

abbrev pub invariant-loop-disk : goal.invariant-loop-disk
invariant-loop-disk g l = record {
  way : IsUnderWay (IsBegunOn g.D.Disk.model l.fn.catalog) l.fn.disks.items l.disks.items l.sites.items;
  empty : All (IsEmpty g.D.Disk.model) l.disks.items;
  kept : length l.fn.disks.items ≤ vec_capacity l.disks;
  room : length l.fn.disks.items ≤ vec_capacity l.sites;
}

abbrev pub decreases-loop-disk : goal.decreases-loop-disk
decreases-loop-disk g l = length l.disks.items
