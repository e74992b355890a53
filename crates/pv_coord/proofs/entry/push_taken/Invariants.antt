use Rattle.std.proofs.Common.{◌≡◌, ◌++◌, drop}
use Rattle.std.specs.List.{flat_map}
use Rattle.pv_protocol.specs.State.{Taken}
use Rattle.pv_coord.proofs.entry.push_taken.Given as goal

abbrev pub invariant-loop-one : goal.invariant-loop-one
invariant-loop-one l =
    l.fn.list.items ++ flat_map (λ (one : Taken). one.values) l.fn.taken ≡ l.list.items ++ flat_map (λ (one : Taken). one.values) (drop l.one-index l.taken)
