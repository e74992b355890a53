-- The boxes go on, and are quiet after each time.
use Rattle.std.proofs.Common.{All}
use Rattle.pv_closing.proofs.emptying.tick_and_empty.Given as goal
use Rattle.pv_closing.specs.Closing.{GoOn, IsQuiet}

abbrev pub invariant-loop : goal.invariant-loop
invariant-loop g l = record {
  on : GoOn g.L.Log.model l.fn.boxes.items l.boxes.items;
  quiet : All (IsQuiet g.L.Log.model) l.boxes.items;
}
