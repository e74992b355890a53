-- The transactions of the literals so far are added; what the list held stands in front.
use Rattle.std.proofs.Common.{◌≡◌, length, take}
use Rattle.pv_cases.specs.Names.{mentions, Adds}
use Rattle.pv_cases.proofs.names.push_txns.Given as goal

abbrev pub invariant-loop-place : goal.invariant-loop-place
invariant-loop-place l = record {
  added : Adds (mentions (take l.place l.fn.when)) l.initial.txns.items l.txns.items;
  kept : take (length l.initial.txns.items) l.txns.items ≡ l.initial.txns.items;
}
