-- The boxes so far came from their turns.
use Rattle.std.proofs.Common.{◌≡◌, ◌++◌}
use Rattle.pv_rings.specs.Rings.{Each}
use Rattle.pv_cluster.proofs.serving.from_turns.Given as goal
use Rattle.pv_cluster.specs.Serving.{WentOn}

abbrev pub invariant-loop-turn : goal.invariant-loop-turn
invariant-loop-turn g l =
    (l.yielded ++ l.turn-iterator.rest.items ≡ l.fn.turns.items)
    × Each (λ k turn one. WentOn g.L.Log.model turn.1 one) l.yielded l.boxes.items
