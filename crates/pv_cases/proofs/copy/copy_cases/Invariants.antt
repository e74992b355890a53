-- The cases so far are copied.
use Rattle.std.proofs.Common.{◌≡◌, take}
use Rattle.pv_cases.proofs.copy.copy_cases.Given as goal

abbrev pub invariant-loop-case : goal.invariant-loop-case
invariant-loop-case g l = l.copy.items ≡ take l.case-index l.cases
