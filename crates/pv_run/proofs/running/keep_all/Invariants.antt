-- The bay keeps the disks so far.
use Rattle.std.proofs.Common.{◌≡◌, List, length}
use Rattle.pv_protocol.specs.State.{Site}
use Rattle.pv_run.specs.KeptDisks.{KeepsSites}
use Rattle.pv_world.specs.Disks.{HoldSites}
use Rattle.pv_run.proofs.running.keep_all.Given as goal

abbrev pub invariant-loop-disk : goal.invariant-loop-disk
invariant-loop-disk g l = record {
  count : l.site ≡ length l.yielded;
  keeps : (sites : List Site) → HoldSites l.yielded sites → KeepsSites g.B.Bay.model l.initial.bay l.bay sites;
}
