use Rattle.std.proofs.Common.{◌∙◌, sym, ap, subst, length, arith}
use Rattle.pv_locks.proofs.IndexLemmas.{lent, renewed-is}
use Rattle.pv_locks.proofs.locks.Locks.renew.Goals as goal
use Rattle.pv_locks.specs.Holders.{IsIndex}
use Rattle.pv_locks.specs.LockTable.{with_renewed}
use Rattle.pv_protocol.specs.Keyed.{of_txn}
use Rattle.pv_protocol.specs.State.{Grant}

pub invariant_of-self : goal.invariant_of-self
invariant_of-self c =
    let grants = c.self.inside.grants.items in
    let holders = c.self.inside.holders.items in
    let new = c.renew_grant.new.grants in
    let long = ap length c.deref_mut.ensures.value in
    let is = c.renew_grant.ensures ∙ ap (λ l. with_renewed l (of_txn (λ (g : Grant). g.txn) c.args.txn l)) c.deref_mut.ensures.value in
    subst (λ l. IsIndex l holders)
    (sym (lent c.self.inside.grants.len new grants (omega (arith, c.renew_grant.auto.grants, c.deref_mut.ensures.len)) (omega (arith, long, c.deref_mut.ensures.len)) ∙ is))
    (renewed-is grants holders c.self.invariant c.args.txn)
