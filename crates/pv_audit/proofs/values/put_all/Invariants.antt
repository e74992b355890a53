-- What is left, put over what was put so far, is all of it put over what there was.
use Rattle.std.proofs.Common.{◌≡◌}
use Rattle.pv_audit.specs.Values.{put_all}
use Rattle.pv_audit.proofs.values.put_all.Given as goal

abbrev pub invariant-loop-write : goal.invariant-loop-write
invariant-loop-write l = put_all l.values.items l.write-iterator.rest.items ≡ put_all l.fn.values.items l.fn.writes.items
