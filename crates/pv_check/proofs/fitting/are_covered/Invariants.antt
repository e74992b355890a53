-- The items left have the answer.
use Rattle.std.proofs.Common.{◌≡◌, ◌-◌, length}
use Rattle.pv_check.proofs.fitting.are_covered.Given as goal
use Rattle.pv_check.specs.Fits.{are_covered}

abbrev pub invariant-loop-number : goal.invariant-loop-number
invariant-loop-number l =
    are_covered l.fn.catalog.items l.fn.marks l.fn.parts 0 (length l.fn.catalog.items)
    ≡ are_covered l.fn.catalog.items l.fn.marks l.fn.parts l.number (length l.fn.catalog.items - l.number)
