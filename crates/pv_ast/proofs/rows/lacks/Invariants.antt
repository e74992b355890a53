-- What is left has the answer.
use Rattle.std.proofs.Common.{◌≡◌, length}
use Rattle.pv_model.specs.Items.{lacks}
use Rattle.pv_ast.proofs.rows.lacks.Given as goal

abbrev pub invariant-loop-left : goal.invariant-loop-left
invariant-loop-left l = lacks l.fn.rows l.fn.item.0 ≡ lacks l.left l.fn.item.0

abbrev pub decreases-loop-left : goal.decreases-loop-left
decreases-loop-left l = length l.left
