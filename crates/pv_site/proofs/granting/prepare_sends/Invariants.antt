-- What is sent so far, and then to the rest of the parts.
use Rattle.std.proofs.Common.{◌≡◌, ◌++◌, drop, map}
use Rattle.pv_coord.specs.Coordinator.{grant_of, work_of}
use Rattle.pv_site.specs.Shares.{prepares}
use Rattle.pv_site.specs.Values.{outgoing_of}
use Rattle.pv_site.proofs.granting.prepare_sends.Given as goal

abbrev pub invariant-loop-part : goal.invariant-loop-part
invariant-loop-part l =
    map outgoing_of l.sends.items ++ prepares l.txn l.writes l.from.0 l.grant (grant_of (work_of l.coord.contents l.txn)) (drop l.part-index l.part-items)
    ≡ prepares l.txn l.writes l.from.0 l.grant (grant_of (work_of l.coord.contents l.txn)) l.part-items
