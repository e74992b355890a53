-- The items so far have their wants.
use Rattle.std.proofs.Common.{◌≡◌}
use Rattle.pv_check.specs.Wants.{wants_among}
use Rattle.pv_check.proofs.marks.wants_of.Given as goal

abbrev pub invariant-loop-number : goal.invariant-loop-number
invariant-loop-number l = l.wants.items ≡ wants_among l.fn.marks l.number
