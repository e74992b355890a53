-- The rings of the sites so far were looked at.
use Rattle.std.proofs.Common.{◌≡◌, ◌≤◌, length}
use Rattle.pv_cluster.proofs.looking.look_at_sites.Given as goal
use Rattle.pv_cluster.specs.Looks.{AllStill, AreBroughtTo}

abbrev pub invariant-loop-at : goal.invariant-loop-at
invariant-loop-at g l =
    (l.count ≡ length l.fn.boxes.items) × (l.at ≤ l.count) × AllStill l.fn.boxes.items l.boxes.items × AreBroughtTo l.at l.fn.boxes.items
