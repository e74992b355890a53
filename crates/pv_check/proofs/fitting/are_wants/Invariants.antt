-- What is left of the wants has to be wanted of the items that are left.
use Rattle.std.proofs.Common.{◌≡◌, ◌-◌, length}
use Rattle.std.specs.Cmp.Lexicographic.{pointwise}
use Rattle.pv_check.proofs.fitting.are_wants.Given as goal
use Rattle.pv_check.specs.Fits.{is_same_want, wants_between}

abbrev pub invariant-loop-number : goal.invariant-loop-number
invariant-loop-number l =
    pointwise is_same_want l.left (wants_between l.fn.catalog.items l.fn.marks l.fn.site.0 l.number (length l.fn.catalog.items - l.number))
    ≡ pointwise is_same_want l.fn.wants (wants_between l.fn.catalog.items l.fn.marks l.fn.site.0 0 (length l.fn.catalog.items))
