-- The boxes go on and are quiet, and the client asks.
use Rattle.std.proofs.Common.{◌<◌, All, length}
use Rattle.pv_closing.proofs.asking.ask_all.Given as goal
use Rattle.pv_closing.specs.Closing.{GoOn, IsQuiet}
use Rattle.pv_closing.specs.Ended.{AsksOn}

abbrev pub invariant-loop : goal.invariant-loop
invariant-loop g l = record {
  on : GoOn g.L.Log.model l.fn.boxes.items l.boxes.items;
  quiet : All (IsQuiet g.L.Log.model) l.boxes.items;
  asks : AsksOn l.fn.ended l.ended;
  site : l.site < length l.boxes.items;
}
