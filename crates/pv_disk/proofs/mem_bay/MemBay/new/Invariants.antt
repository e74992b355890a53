use Rattle.std.proofs.Common.{◌≡◌, ◌≤◌, length, map, vec_capacity}
use Rattle.pv_disk.specs.MemBay.{first_berth}
use Rattle.pv_disk.proofs.mem_bay.MemBay.new.Given as goal

abbrev pub invariant-loop-disk : goal.invariant-loop-disk
invariant-loop-disk l = (l.berths.items ≡ map first_berth l.yielded) × (length l.fn.disks.items ≤ vec_capacity l.berths)
