-- The boxes go on.
use Rattle.pv_closing.proofs.emptying.tick_all.Given as goal
use Rattle.pv_closing.specs.Closing.{GoOn}

abbrev pub invariant-loop-at : goal.invariant-loop-at
invariant-loop-at g l = GoOn g.L.Log.model l.fn.boxes.items l.boxes.items
