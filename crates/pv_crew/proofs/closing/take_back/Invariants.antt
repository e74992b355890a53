use Rattle.std.proofs.Common.{◌≡◌, ◌≤◌, length}
use Rattle.pv_rings.specs.Rings.{Each}
use Rattle.pv_crew.proofs.ClosingLemmas.{IsOut}
use Rattle.pv_crew.proofs.closing.take_back.Given as goal

-- The seats of the rounds so far are out.
abbrev pub invariant-loop-at : goal.invariant-loop-at
invariant-loop-at g l =
    (l.count ≡ length l.fn.rounds.items) × (l.at ≤ l.count) × (length l.seats.items ≡ l.at)
    × Each (IsOut l.seats.items l.at) l.fn.rounds.items l.rounds.items
