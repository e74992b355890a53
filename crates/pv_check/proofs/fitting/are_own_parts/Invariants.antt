-- The parts left have the answer, from the site after the last one.
use Rattle.std.proofs.Common.{◌≡◌, drop, length}
use Rattle.pv_check.proofs.fitting.are_own_parts.Given as goal
use Rattle.pv_check.specs.Fits.{are_own_parts, wants_between}

abbrev pub invariant-loop-part : goal.invariant-loop-part
invariant-loop-part l =
    are_own_parts (λ site. wants_between l.fn.catalog.items l.fn.marks site 0 (length l.fn.catalog.items)) 0 l.fn.parts
    ≡ are_own_parts (λ site. wants_between l.fn.catalog.items l.fn.marks site 0 (length l.fn.catalog.items)) l.least (drop l.part-index l.parts)
