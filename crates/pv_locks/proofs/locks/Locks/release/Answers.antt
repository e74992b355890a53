use Rattle.std.proofs.Common.{◌≡◌, Some, None, ◌∙◌, sym, ap, subst}
use Rattle.pv_locks.proofs.IndexLemmas.{holders-split, in-place, taken-out}
use Rattle.pv_locks.proofs.KeyedLemmas.{without-none}
use Rattle.pv_locks.proofs.locks.Locks.release.Goals as goal
use Rattle.pv_locks.specs.Holders.{IsIndex, holders_of, with_holders}
use Rattle.pv_protocol.specs.Keyed.{of_txn, without}
use Rattle.pv_protocol.specs.State.{Grant}

pub remove_holders-requires : goal.remove_holders-requires
remove_holders-requires c = record { order = in-place c.self.inside.grants.items c.self.inside.holders.items c.self.invariant }

-- The grant is taken out with its holders.
pub invariant_of-self : goal.invariant_of-self
invariant_of-self c =
    let grants = c.self.inside.grants.items in
    let holders = c.self.inside.holders.items in
    let txn = c.args.txn in
    let some : of_txn (λ (g : Grant). g.txn) txn grants ≡ Some c.in-Some.grant = sym c.remove_grant.ensures.found ∙ c.in-Some.is in
    let others = holders_of (without (λ (g : Grant). g.txn) txn grants) in
    let split = holders-split grants holders c.self.invariant txn c.in-Some.grant some
    ∙ ap (λ l. with_holders txn l others) (sym (c.deref.ensures.value ∙ ap (λ (g : Grant). g.wants) c.grant.view_is)) in
    subst (λ l. IsIndex l c.remove_holders.new.holders.items) (sym c.remove_grant.ensures.left)
    (subst (λ l. IsIndex (without (λ (g : Grant). g.txn) txn grants) l) (sym (c.remove_holders.ensures.left others split)) (taken-out grants holders c.self.invariant txn))

-- There is none.
pub invariant_of-self-in-None : goal.invariant_of-self-in-None
invariant_of-self-in-None c =
    let none : of_txn (λ (g : Grant). g.txn) c.args.txn c.self.inside.grants.items ≡ None = sym c.remove_grant.ensures.found ∙ c.in-None.is in
    subst (λ l. IsIndex l c.self.inside.holders.items)
    (sym (c.remove_grant.ensures.left ∙ without-none (λ (g : Grant). g.txn) c.args.txn c.self.inside.grants.items none)) c.self.invariant
