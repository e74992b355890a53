-- What is left has the answer.
use Rattle.std.proofs.Common.{◌≡◌, length}
use Rattle.pv_model.specs.Items.{has_once}
use Rattle.pv_ast.proofs.rows.has_once.Given as goal

abbrev pub invariant-loop-left : goal.invariant-loop-left
invariant-loop-left l = has_once l.fn.rows l.fn.item.0 ≡ has_once l.left l.fn.item.0

abbrev pub decreases-loop-left : goal.decreases-loop-left
decreases-loop-left l = length l.left
