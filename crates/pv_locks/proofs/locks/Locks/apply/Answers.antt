use Rattle.std.proofs.Common.{◌∙◌, sym, ap, subst, length, arith}
use Rattle.pv_locks.proofs.IndexLemmas.{added, in-place, length-is}
use Rattle.pv_locks.proofs.locks.Locks.apply.Goals as goal
use Rattle.pv_locks.specs.Holders.{IsIndex, with_holders}
use Rattle.pv_locks.specs.LockTable.{LockTable}
use Rattle.pv_locks.specs.Planned.{IsPlanned}
use Rattle.pv_protocol.specs.Keyed.{with_one}
use Rattle.pv_protocol.specs.State.{Grant}

pub add_holders-requires-clause-order : goal.add_holders-requires-clause-order
add_holders-requires-clause-order c = in-place c.self.inside.grants.items c.self.inside.holders.items c.self.invariant

pub add_holders-requires-clause-room : goal.add_holders-requires-clause-room
add_holders-requires-clause-room c =
    let planned = subst (λ (table : LockTable). IsPlanned table c.args.change) (sym c.self.view_is) c.requires in
    let many = length-is c.self.inside.grants.items c.self.inside.holders.items c.self.invariant in
    let wants = ap length (c.deref.ensures.value ∙ ap (λ (g : Grant). g.wants) (c.grant.view_is ∙ c.change.view_is)) in
    let places = planned.places in
    omega (arith, many, wants, places)

-- The grant is added with its holders.
pub invariant_of-self : goal.invariant_of-self
invariant_of-self c =
    let planned = subst (λ (table : LockTable). IsPlanned table c.args.change) (sym c.self.view_is) c.requires in
    let same = c.grant.view_is ∙ c.change.view_is in
    let age = ap (λ (g : Grant). g.age) planned.next in
    let holders = c.add_holders.ensures.added
    ∙ ap (λ l. with_holders c.grant.inside.txn l c.self.inside.holders.items) c.deref.ensures.value
    ∙ ap (λ (g : Grant). with_holders g.txn g.wants c.self.inside.holders.items) same in
    let grants = c.add_grant.ensures.added ∙ ap (λ (g : Grant). with_one (λ (other : Grant). other.txn) g c.self.inside.grants.items) c.change.view_is in
    subst (λ l. IsIndex l c.add_holders.new.holders.items) (sym grants)
    (subst (λ l. IsIndex (with_one (λ (other : Grant). other.txn) c.args.change c.self.inside.grants.items) l) (sym holders)
    (added c.self.inside.grants.items c.self.inside.holders.items c.self.invariant c.args.change planned.new planned.ascending (omega (arith, age))))
