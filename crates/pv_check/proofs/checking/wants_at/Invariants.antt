-- The wants so far are split.
use Rattle.std.proofs.Common.{◌≡◌, take}
use Rattle.pv_check.specs.Wants.{wants_at}
use Rattle.pv_check.proofs.checking.wants_at.Given as goal

abbrev pub invariant-loop-want : goal.invariant-loop-want
invariant-loop-want l = l.found.items ≡ wants_at l.fn.catalog.items l.fn.site.0 (take l.want-index l.fn.wants)
