-- What is found so far, and then in the writes left.
use Rattle.std.proofs.Common.{◌≡◌, [], map, drop}
use Rattle.pv_store.specs.Writes.{held_writes}
use Rattle.pv_store.proofs.writes.held_writes.Given as goal

abbrev pub invariant-loop-write : goal.invariant-loop-write
invariant-loop-write l = held_writes l.values (map (λ write. write.now) l.found.items) (drop l.write-index l.writes) ≡ held_writes l.values [] l.writes
