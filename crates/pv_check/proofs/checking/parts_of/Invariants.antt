-- The sites so far have their parts.
use Rattle.std.proofs.Common.{◌≡◌}
use Rattle.pv_check.specs.Wants.{parts_among}
use Rattle.pv_check.proofs.checking.parts_of.Given as goal

abbrev pub invariant-loop-site : goal.invariant-loop-site
invariant-loop-site l = l.parts.items ≡ parts_among l.fn.catalog.items l.fn.wants l.site
