use Rattle.std.proofs.Common.{◌∙◌, sym, ap, subst, nat_lt, rules}
use Rattle.std.specs.Prelude.{filter}
use Rattle.std.proofs.lemmas.Fn.{filter_same}
use Rattle.pv_base.specs.declared.limits.TheConstants.{TICKS}
use Rattle.pv_locks.proofs.IndexLemmas.{aged, lent-older, older-order}
use Rattle.pv_locks.proofs.locks.Locks.tick.Goals as goal
use Rattle.pv_locks.specs.Holders.{IsIndex, lasts}
use Rattle.pv_locks.specs.LockTable as table
use Rattle.pv_locks.specs.declared.holders.Holder.{Holder}
use Rattle.pv_protocol.specs.Keyed.{AreInOrder, of_txn}
use Rattle.pv_protocol.specs.State.{Grant}
use Rattle.pv_protocol.specs.Tick.{lasting_grants, older_grants}

pub retain_lasting-requires : goal.retain_lasting-requires
retain_lasting-requires c =
    let grants = c.self.inside.grants.items in
    let older = lent-older c.self.inside.grants.len c.age.new.grants c.deref_mut.result.now grants c.age.auto.grants c.deref_mut.ensures.len c.deref_mut.ensures.value c.age.ensures in
    subst (AreInOrder (λ (g : Grant). g.txn)) (sym (c.deref.ensures.value ∙ older)) (older-order grants c.self.invariant.order)

pub invariant_of-self : goal.invariant_of-self
invariant_of-self c =
    let grants = c.self.inside.grants.items in
    let older = lent-older c.self.inside.grants.len c.age.new.grants c.deref_mut.result.now grants c.age.auto.grants c.deref_mut.ensures.len c.deref_mut.ensures.value c.age.ensures in
    let kept = filter_same _ (λ (g : Grant). nat_lt g.age TICKS) _ (λ x b g k. search rules) _ _ c.retain.ensures.filtered ∙ ap lasting_grants older in
    let holders = c.retain_lasting.ensures.left
    ∙ ap (λ l. filter (λ (h : Holder). lasts (of_txn (λ (g : Grant). g.txn) h.txn l)) c.self.inside.holders.items) (c.deref.ensures.value ∙ older) in
    subst (λ l. IsIndex l c.retain_lasting.new.holders.items) (sym kept)
    (subst (λ l. IsIndex (lasting_grants (older_grants grants)) l) (sym holders) (aged grants c.self.inside.holders.items c.self.invariant))

pub returns : goal.returns
returns c =
    let grants = c.self.inside.grants.items in
    let older = lent-older c.self.inside.grants.len c.age.new.grants c.deref_mut.result.now grants c.age.auto.grants c.deref_mut.ensures.len c.deref_mut.ensures.value c.age.ensures in
    let kept = filter_same _ (λ (g : Grant). nat_lt g.age TICKS) _ (λ x b g k. search rules) _ _ c.retain.ensures.filtered ∙ ap lasting_grants older in
    (λ i. record {
      epoch = c.self.inside.epoch;
      next = c.self.inside.next;
      grants = kept i;
      room = record { grants = c.retain.ensures.capacity i; wants = c.retain_lasting.ensures.room i };
    }) ∙ ap table.older c.self.view_is
