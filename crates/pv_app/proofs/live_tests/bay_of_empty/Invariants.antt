-- No call on the disks has failed.
use Rattle.std.proofs.Common.{◌≡◌, All}
use Rattle.pv_app.proofs.live_tests.bay_of_empty.Given as goal

abbrev pub invariant-loop : goal.invariant-loop
invariant-loop l = All (λ disk. disk.faults ≡ 0) l.disks.items
