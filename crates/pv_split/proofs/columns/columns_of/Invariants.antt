-- The columns of the reads so far.
use Rattle.std.proofs.Common.{◌≡◌, take}
use Rattle.pv_split.specs.Columns.{columns_of}
use Rattle.pv_split.proofs.columns.columns_of.Given as goal

abbrev pub invariant-loop-read : goal.invariant-loop-read
invariant-loop-read l = l.columns.items ≡ columns_of (take l.read-index l.reads) l.txns
