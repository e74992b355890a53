-- The writes so far have their new values, and whether one is too wide is seen by those that are left.
use Rattle.std.proofs.Common.{map}
use Rattle.pv_store.proofs.WriteLemmas.{ArePromised}
use Rattle.pv_store.proofs.writes.promised_values.Given as goal

abbrev pub invariant-loop-write : goal.invariant-loop-write
invariant-loop-write l = ArePromised l.outcomes.outcomes l.values l.txn (map (λ write. write.now) l.writes) l.write-index l.new.items
