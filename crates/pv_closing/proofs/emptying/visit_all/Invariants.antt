-- The boxes go on, and where nothing was found, those so far are quiet.
use Rattle.std.proofs.Common.{◌≡◌, false}
use Rattle.pv_closing.proofs.ClosingLemmas.{AreQuietTo}
use Rattle.pv_closing.proofs.emptying.visit_all.Given as goal
use Rattle.pv_closing.specs.Closing.{GoOn}

abbrev pub invariant-loop-at : goal.invariant-loop-at
invariant-loop-at g l = record {
  on : GoOn g.L.Log.model l.fn.boxes.items l.boxes.items;
  quiet : l.found ≡ false → AreQuietTo g.L.Log.model l.at l.boxes.items;
}
