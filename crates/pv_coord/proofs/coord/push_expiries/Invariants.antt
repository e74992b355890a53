use Rattle.std.proofs.Common.{◌≡◌, ◌++◌, map, drop}
use Rattle.pv_coord.specs.Answers.{expiry_of}
use Rattle.pv_coord.specs.Coordinator.{older, expired}
use Rattle.pv_coord.proofs.coord.push_expiries.Given as goal

abbrev pub invariant-loop-entry : goal.invariant-loop-entry
invariant-loop-entry l =
    l.fn.expiries.items ++ map expiry_of (expired (older l.fn.entries)) ≡ l.expiries.items ++ map expiry_of (expired (older (drop l.entry-index l.entries)))
