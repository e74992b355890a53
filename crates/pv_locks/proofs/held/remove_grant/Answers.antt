use Rattle.std.proofs.Common.{◌≡◌, false, Option, Some, None, List, refl, sym, ◌∙◌, ap, subst}
use Rattle.std.specs.List.{remove}
use Rattle.std.specs.Prelude.{is_some, slice_index_or}
use Rattle.std.proofs.lemmas.Bool.{true≢false}
use Rattle.pv_locks.proofs.KeyedLemmas.{remove-place, without-none}
use Rattle.pv_locks.proofs.held.remove_grant.Goals as goal
use Rattle.pv_locks.specs.LockTable.{place_for}
use Rattle.pv_protocol.specs.Keyed.{of_txn}
use Rattle.pv_protocol.specs.State.{Grant}

none-from : (o : Option Grant) → is_some o ≡ false → o ≡ None
none-from None isnt = refl
none-from (Some g) isnt = absurd (true≢false isnt)

pub returns-then-not-is_at-clause-left : goal.returns-then-not-is_at-clause-left
returns-then-not-is_at-clause-left c =
    sym (without-none (λ (g : Grant). g.txn) c.args.txn c.args.grants.now.items
    (none-from _ (sym (ap (λ l. is_some (of_txn (λ (g : Grant). g.txn) c.args.txn l)) c.deref-2.ensures.value) ∙ sym c.is_at.ensures.stands ∙ c.if-not-is_at.true)))

-- The grant at the place is the transaction's.
pub returns-clause-left : goal.returns-clause-left
returns-clause-left c =
    let items = c.args.grants.now.items in
    let place = c.place_of-place.result in
    let grant = c.remove.result in
    let some = subst (λ (l : List Grant). of_txn (λ (g : Grant). g.txn) c.args.txn l ≡ Some (slice_index_or l place grant)) c.deref-2.ensures.value
    (c.is_at.ensures.there c.if-not-is_at.false grant) in
    c.remove.ensures.items ∙ ap (λ n. remove items n) (c.place_of-place.ensures ∙ ap (place_for c.args.txn) c.deref.ensures.value)
    ∙ remove-place (λ (g : Grant). g.txn) c.args.txn (slice_index_or items place grant) items c.requires some
