-- The writes so far, with the outcomes put in.
use Rattle.std.proofs.Common.{take}
use Rattle.std.specs.List.{AllZip}
use Rattle.pv_site.specs.LockPoint.{IsWritePutIn}
use Rattle.pv_site.proofs.granting.settled_named.Given as goal

abbrev pub invariant-loop-write : goal.invariant-loop-write
invariant-loop-write l = AllZip (IsWritePutIn l.fn.store.records) (take l.write-index l.write-items) l.writes.items
