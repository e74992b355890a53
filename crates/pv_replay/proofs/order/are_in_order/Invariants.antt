-- The cases from the one before the place on are in order exactly where all are.
use Rattle.std.proofs.Common.{◌≡◌, ◌-◌, drop}
use Rattle.pv_replay.specs.Order.{are_in_order}
use Rattle.pv_replay.proofs.order.are_in_order.Given as goal

abbrev pub invariant-loop-place : goal.invariant-loop-place
invariant-loop-place l = are_in_order (drop (l.place - 1) l.cases) ≡ are_in_order l.cases
