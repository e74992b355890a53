use Rattle.std.proofs.Common.{length, ◌-◌, ◌≤◌}
use Rattle.pv_disk_model.specs.Size.{Contents}
use Rattle.pv_host.proofs.GroupReads.{SoFar}
use Rattle.pv_host.specs.Waiting.{AreRecords}
use Rattle.pv_host.proofs.waiting.group_size.Given as goal

abbrev pub invariant-loop-bytes : goal.invariant-loop-bytes
invariant-loop-bytes l =
    (l.bytes ≤ length l.records) × (l.count ≤ l.bytes) × ((contents : Contents) → AreRecords contents l.records → SoFar l.room contents l.bytes l.count)

abbrev pub decreases-loop-bytes : goal.decreases-loop-bytes
decreases-loop-bytes l = length l.records - l.bytes
