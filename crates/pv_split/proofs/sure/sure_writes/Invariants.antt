-- What is written so far.
use Rattle.std.proofs.Common.{◌≡◌, map, take}
use Rattle.pv_model.specs.Alternatives.{assigned}
use Rattle.pv_split.specs.Sure.{sure_read}
use Rattle.pv_split.proofs.sure.sure_writes.Given as goal

abbrev pub invariant-loop-row : goal.invariant-loop-row
invariant-loop-row l = l.writes.items ≡ map sure_read (assigned l.fn.program (take l.row-index l.rows))
