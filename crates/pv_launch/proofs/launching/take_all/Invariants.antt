-- The disks so far are out.
use Rattle.std.proofs.Common.{◌≡◌, ◌≤◌, length, vec_capacity}
use Rattle.pv_launch.specs.Launching.{AreTaken}
use Rattle.pv_launch.proofs.launching.take_all.Given as goal

abbrev pub invariant-loop-site : goal.invariant-loop-site
invariant-loop-site g l = record {
  taken : AreTaken g.B.Bay.model g.B.D.Disk.model l.fn.bay l.bay l.disks.items;
  count : length l.disks.items ≡ l.site;
  within : l.site ≤ l.count;
  faults : g.B.Bay.model.faults l.bay ≡ g.B.Bay.model.faults l.fn.bay;
  room : l.count ≤ vec_capacity l.disks;
}
