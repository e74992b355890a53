-- The boxes go on and are quiet, and the clients so far have asked.
use Rattle.std.proofs.Common.{All}
use Rattle.pv_closing.proofs.StandLemmas.{HaveAskedTo}
use Rattle.pv_closing.proofs.closing.close_round.Given as goal
use Rattle.pv_closing.specs.Closing.{GoOn, IsQuiet}
use Rattle.pv_closing.specs.Ended.{AskOn}

abbrev pub invariant-loop-at : goal.invariant-loop-at
invariant-loop-at g l = record {
  on : GoOn g.L.Log.model l.fn.boxes.items l.boxes.items;
  quiet : All (IsQuiet g.L.Log.model) l.boxes.items;
  asks : AskOn l.fn.clients.items l.clients.items;
  asked : HaveAskedTo l.at l.boxes.items l.script.clients.items l.clients.items;
}
