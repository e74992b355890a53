-- The clients so far have heard.
use Rattle.pv_closing.proofs.LineLemmas.{AreToldTo}
use Rattle.pv_closing.proofs.lines.lines_of.Given as goal

abbrev pub invariant-loop-at : goal.invariant-loop-at
invariant-loop-at g l = AreToldTo l.boxes l.clients.items l.at l.lines.items
