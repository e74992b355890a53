-- The items of the parts so far.
use Rattle.std.proofs.Common.{◌≡◌, take}
use Rattle.pv_audit.proofs.PlanReads.{planned}
use Rattle.pv_audit.proofs.values.items_of.Given as goal

abbrev pub invariant-loop-part : goal.invariant-loop-part
invariant-loop-part l = l.items.items ≡ planned (take l.part-index l.parts)
