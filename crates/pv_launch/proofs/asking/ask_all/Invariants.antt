-- The disks behind those that are left were asked, and are empty.
use Rattle.std.proofs.Common.{◌≤◌, length, vec_capacity}
use Rattle.pv_law_calls.specs.Reading.{LooksOn}
use Rattle.pv_launch.proofs.OrderedLemmas.{IsUnderWay}
use Rattle.pv_launch.specs.Disks.{IsEmpty}
use Rattle.pv_launch.proofs.asking.ask_all.Given as goal

abbrev pub invariant-loop-disk : goal.invariant-loop-disk
invariant-loop-disk g l = record {
  way : IsUnderWay (λ n old new. LooksOn g.D.Disk.model old new × IsEmpty g.D.Disk.model new) l.fn.disks.items l.disks.items l.asked.items;
  kept : length l.fn.disks.items ≤ vec_capacity l.disks;
  room : length l.fn.disks.items ≤ vec_capacity l.asked;
}

abbrev pub decreases-loop-disk : goal.decreases-loop-disk
decreases-loop-disk g l = length l.disks.items
