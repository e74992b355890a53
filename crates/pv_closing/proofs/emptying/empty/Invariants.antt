-- The boxes go on.
use Rattle.pv_closing.proofs.emptying.empty.Given as goal
use Rattle.pv_closing.specs.Closing.{GoOn}

abbrev pub invariant-loop : goal.invariant-loop
invariant-loop g l = GoOn g.L.Log.model l.fn.boxes.items l.boxes.items
