-- The writes that are left are of the wants that are left, where the writes are of the wants.
use Rattle.std.proofs.Common.{◌≡◌, drop}
use Rattle.pv_site.specs.Written.{are_items_of}
use Rattle.pv_site.proofs.deciding.are_written.Given as goal

abbrev pub invariant-loop-want : goal.invariant-loop-want
invariant-loop-want l = are_items_of (drop l.want-index l.wants) l.left ≡ are_items_of l.fn.wants l.fn.writes
