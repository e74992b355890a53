-- The rows of the columns so far.
use Rattle.std.proofs.Common.{◌≡◌, map, take}
use Rattle.pv_split.specs.Columns.{row_at}
use Rattle.pv_split.proofs.columns.rows_in.Given as goal

abbrev pub invariant-loop-column : goal.invariant-loop-column
invariant-loop-column l = l.rows.items ≡ map (row_at l.place) (take l.column-index l.columns)
