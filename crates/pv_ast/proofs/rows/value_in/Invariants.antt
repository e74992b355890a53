-- The item's row is not before what is left.
use Rattle.std.proofs.Common.{◌≡◌, length}
use Rattle.pv_model.specs.Meaning.{value_in}
use Rattle.pv_ast.proofs.rows.value_in.Given as goal

abbrev pub invariant-loop-left : goal.invariant-loop-left
invariant-loop-left l = value_in l.fn.rows l.fn.item.0 ≡ value_in l.left l.fn.item.0

abbrev pub decreases-loop-left : goal.decreases-loop-left
decreases-loop-left l = length l.left
