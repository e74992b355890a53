-- The items so far.
use Rattle.std.proofs.Common.{◌≡◌, ◌++◌, map, take}
use Rattle.pv_base.specs.Want.{Want}
use Rattle.pv_audit.proofs.values.push_items.Given as goal

abbrev pub invariant-loop-want : goal.invariant-loop-want
invariant-loop-want l = l.items.items ≡ l.initial.items.items ++ map (λ (want : Want). want.item) (take l.want-index l.wants)
