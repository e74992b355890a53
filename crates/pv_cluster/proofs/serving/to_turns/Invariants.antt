-- The boxes so far came to their turns.
use Rattle.std.proofs.Common.{◌≡◌, ◌++◌}
use Rattle.pv_rings.specs.Rings.{Each}
use Rattle.pv_cluster.proofs.serving.to_turns.Given as goal

abbrev pub invariant-loop-one : goal.invariant-loop-one
invariant-loop-one g l =
    (l.yielded ++ l.one-iterator.rest.items ≡ l.fn.boxes.items) × Each (λ k one turn. turn ≡ (one, one)) l.yielded l.turns.items
