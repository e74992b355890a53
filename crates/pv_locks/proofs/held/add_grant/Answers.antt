use Rattle.std.proofs.Common.{◌≡◌, true, refl, ◌∙◌, ap, arith}
use Rattle.std.specs.List.{insert}
use Rattle.std.specs.Prelude.{is_ok, if◌then◌else◌}
use Rattle.pv_locks.proofs.KeyedLemmas.{before, put-new}
use Rattle.pv_locks.proofs.PutLemmas.{insert-put, place-within}
use Rattle.pv_locks.proofs.held.add_grant.Goals as goal
use Rattle.pv_locks.specs.LockTable.{place_for}
use Rattle.pv_protocol.specs.State.{Grant}

pub insert-requires : goal.insert-requires
insert-requires c =
    let at = c.place_of-place.ensures ∙ ap (place_for c.grant.inside.txn) c.deref.ensures.value in
    let bound = place-within (before (λ (g : Grant). g.txn) c.grant.inside.txn) c.args.grants.now.items in
    omega (arith, bound, at)

-- What is inserted at the place of a transaction that has no grant stands in order.
pub returns-clause-added : goal.returns-clause-added
returns-clause-added c =
    let items = c.args.grants.now.items in
    let grant = c.args.grant in
    let ok : is_ok c.insert.result ≡ true = c.insert.ensures.succeeds (omega arith) in
    let at : c.place_of-place.result ≡ place_for grant.txn items =
    c.place_of-place.ensures ∙ ap (place_for c.grant.inside.txn) c.deref.ensures.value ∙ ap (λ (g : Grant). place_for g.txn items) c.grant.view_is in
    c.insert.ensures.items ∙ ap (λ b. if b then insert items c.place_of-place.result grant else items) ok
    ∙ ap (λ n. insert items n grant) at
    ∙ insert-put (before (λ (g : Grant). g.txn) grant.txn) grant items
    ∙ put-new (λ (g : Grant). g.txn) grant.txn grant items refl c.requires.new
