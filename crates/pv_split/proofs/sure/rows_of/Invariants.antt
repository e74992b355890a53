-- The rows of the reads so far.
use Rattle.std.proofs.Common.{◌≡◌, [], take}
use Rattle.pv_model.specs.Alternatives.{rows_at}
use Rattle.pv_split.proofs.sure.rows_of.Given as goal

abbrev pub invariant-loop-read : goal.invariant-loop-read
invariant-loop-read l = l.rows.items ≡ rows_at (take l.read-index l.reads) []
