use Rattle.std.proofs.Common.{◌≤◌, length}
use mathlib.Core.List.{IsPrefix}
use Rattle.pv_rings.specs.Rings.{Each}
use Rattle.pv_crew.proofs.DealingLemmas.{Has}
use Rattle.pv_crew.proofs.dealing.hand_out.Given as goal

-- The rounds behind those of the seats that are left have theirs.
abbrev pub invariant-loop-seat : goal.invariant-loop-seat
invariant-loop-seat g l =
    IsPrefix l.seats.items l.fn.seats.items × (length l.seats.items ≤ length l.fn.rounds.items)
    × Each (Has l.fn.seats.items (length l.seats.items)) l.fn.rounds.items l.rounds.items

abbrev pub decreases-loop-seat : goal.decreases-loop-seat
decreases-loop-seat g l = length l.seats.items
