-- The boxes can be called.
use Rattle.std.specs.Prelude.{All}
use Rattle.pv_cell.specs.Box.{IsBox}
use Rattle.pv_boxes_tests.proofs.driven.visit_drawn.Given as goal

abbrev pub invariant-loop : goal.invariant-loop
invariant-loop g l = All (IsBox g.L.Log.model) l.boxes.items
