use Rattle.std.proofs.Common.{ap, arith}
use Rattle.pv_locks.proofs.IndexLemmas.{length-is}
use Rattle.pv_locks.proofs.locks.Locks.next_grant.Goals as goal
use Rattle.pv_locks.specs.Planned.{wants_held}

-- The index has a holder for each want.
pub returns-clause-places : goal.returns-clause-places
returns-clause-places c =
    let many = length-is c.self.inside.grants.items c.self.inside.holders.items c.self.invariant in
    let same = ap wants_held c.reserve.ensures.items in
    omega (arith, many, same, c.in_ok-wants.ensures.len, c.len.ensures, c.in_ok-reserve-2.ensures.ok, c.in_ok-reserve-2.ensures.len)
