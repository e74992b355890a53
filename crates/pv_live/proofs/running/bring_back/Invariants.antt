-- The disks so far are back, and their histories are there.
use Rattle.std.proofs.Common.{◌≡◌, ◌≤◌, length, map, vec_capacity}
use Rattle.pv_live.specs.Brought.{AreBroughtBack}
use Rattle.pv_live.proofs.running.bring_back.Given as goal

abbrev pub invariant-loop-one : goal.invariant-loop-one
invariant-loop-one g l = record {
  back : AreBroughtBack g.B.Bay.model g.B.D.Disk.model l.initial.bay l.bay l.yielded;
  histories : l.histories.items ≡ map (λ box. box.history) l.yielded;
  count : l.number ≡ length l.yielded;
  room : length l.fn.boxes.items ≤ vec_capacity l.histories;
}
