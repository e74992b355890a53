use Rattle.std.proofs.Common.{set, get_or, sym, ◌∙◌, ap}
use Rattle.pv_base.proofs.AssignmentLemmas.{same-eq}
use Rattle.pv_locks.proofs.KeyedLemmas.{of-own, set-same}
use Rattle.pv_locks.proofs.held.renew_grant.Goals as goal
use Rattle.pv_locks.specs.LockTable.{with_renewed}
use Rattle.pv_protocol.specs.State.{Grant}

-- The grant at the place is the transaction's, and takes its own place.
pub returns : goal.returns
returns c =
    let grants = c.args.grants.now in
    let place = c.place_of-place.result in
    let grant = get_or grants place c.index-grants-place.result in
    let some = c.is_at.ensures.there c.if-not-is_at.false c.index-grants-place.result in
    let own = same-eq {t = c.args.txn} {u = grant.txn} (of-own (λ (g : Grant). g.txn) c.args.txn grant grants some) in
    ap (λ (g : Grant). set grants place (record g { age = 0 })) c.grant.view_is
    ∙ ap (λ n. set grants n (record grant { age = 0 })) c.place_of-place.ensures
    ∙ set-same (λ (g : Grant). g.txn) c.args.txn (record grant { age = 0 }) grant grants own c.requires some
    ∙ sym (ap (with_renewed grants) some)
