-- The last disks are back.
use Rattle.std.proofs.Common.{length}
use Rattle.pv_launch.proofs.BayLemmas.{IsReturning}
use Rattle.pv_launch.proofs.launching.back_all.Given as goal

abbrev pub invariant-loop-disk : goal.invariant-loop-disk
invariant-loop-disk g l = IsReturning g.B.Bay.model g.B.D.Disk.model l.fn.disks.items l.disks.items l.fn.bay l.bay

abbrev pub decreases-loop-disk : goal.decreases-loop-disk
decreases-loop-disk g l = length l.disks.items
