-- The items so far are the same.
use Rattle.std.proofs.Common.{◌≡◌, take}
use Rattle.pv_script.proofs.same.has_same_items.Given as goal

abbrev pub invariant-loop-item : goal.invariant-loop-item
invariant-loop-item l = take l.item l.one.items ≡ take l.item l.other.items
