-- The least of what was found and of what the reads left have is that of all.
use Rattle.std.proofs.Common.{◌≡◌, drop, None}
use Rattle.pv_site.specs.Doubts.{least_from}
use Rattle.pv_site.proofs.doubting.first_doubt.Given as goal

abbrev pub invariant-loop-read : goal.invariant-loop-read
invariant-loop-read l =
    least_from l.fn.store.records l.fn.program l.first (drop l.read-index l.reads) ≡ least_from l.fn.store.records l.fn.program None l.fn.reads
