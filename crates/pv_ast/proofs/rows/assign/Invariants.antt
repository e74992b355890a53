-- The item's row is not before the place.
use Rattle.std.proofs.Common.{◌≡◌, ◌++◌, take, drop}
use Rattle.pv_model.specs.Meaning.{with_row}
use Rattle.pv_ast.proofs.rows.assign.Given as goal

abbrev pub invariant-loop-place : goal.invariant-loop-place
invariant-loop-place l =
    (l.rows ≡ l.fn.rows)
    × (with_row l.fn.rows l.fn.item.0 l.fn.value ≡ take l.place l.fn.rows ++ with_row (drop l.place l.fn.rows) l.fn.item.0 l.fn.value)
