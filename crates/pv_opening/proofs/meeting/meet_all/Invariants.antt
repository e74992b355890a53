use Rattle.std.proofs.Common.{◌≡◌, ◌≤◌, length}
use Rattle.std.specs.Prelude.{take}
use Rattle.pv_opening.specs.Meeting.{AreMet}
use Rattle.pv_opening.proofs.meeting.meet_all.Given as goal

abbrev pub invariant-loop-k : goal.invariant-loop-k
invariant-loop-k l =
    (l.k ≤ length l.clients) × (length l.asked.items ≡ length l.fn.asked.items) × (length l.told.items ≡ length l.fn.told.items)
    × AreMet (take l.k l.clients) l.met.items l.asked.items l.told.items
