-- The write goes behind those that were passed.
use Rattle.std.proofs.Common.{◌≡◌, ◌++◌, map, take, drop}
use Rattle.pv_model.specs.Alternatives as model
use Rattle.pv_store.specs.Writes.{with_write}
use Rattle.pv_store.proofs.writes.place_for.Given as goal

abbrev pub invariant-loop-other : goal.invariant-loop-other
invariant-loop-other l = record {
  at : l.place ≡ l.other-index;
  before : (write : model.Read) → write.item ≡ l.item.0
      → with_write write (map (λ write. write.now) l.found) ≡ take l.place (map (λ write. write.now) l.found) ++ with_write write (drop l.place (map (λ write. write.now) l.found));
}
