use Rattle.std.proofs.Common.{◌≤◌, ◌<◌, length}
use Rattle.pv_rings.specs.Rings.{Each}
use Rattle.pv_crew.specs.Seated.{IsLater, IsReady}
use Rattle.pv_crew.specs.declared.work.TheConstants.{MAX_IDLE}
use Rattle.pv_crew.proofs.work.work.Given as goal

abbrev pub invariant-loop : goal.invariant-loop
invariant-loop g l =
    (l.at < length l.turns) × (l.idle ≤ MAX_IDLE)
    × Each (λ _. IsReady) l.turns l.seats.items
    × Each (λ _. IsLater) l.fn.round.seats.items l.seats.items
