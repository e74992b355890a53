use Rattle.std.proofs.Common.{◌≡◌, ◌++◌, drop}
use Rattle.pv_coord.proofs.reads.push_reads.Given as goal

abbrev pub invariant-loop-read : goal.invariant-loop-read
invariant-loop-read l = l.fn.list.items ++ l.fn.reads ≡ l.list.items ++ drop l.read-index l.reads
