-- The items so far were counted.
use Rattle.std.proofs.Common.{◌≡◌, ◌+◌, drop}
use Rattle.std.specs.List.{sum_by}
use Rattle.pv_format.specs.Length.{polyvalue_length, reads_length}
use Rattle.pv_model.specs.Alternatives.{Read}
use Rattle.pv_replay.proofs.length.reads_length.Given as goal

abbrev pub invariant-loop-read : goal.invariant-loop-read
invariant-loop-read l = l.length + sum_by (λ (read : Read). 4 + polyvalue_length read.cases) (drop l.read-index l.reads) ≡ reads_length l.reads
