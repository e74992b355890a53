use Rattle.std.proofs.Common.{sym, ◌∙◌, true, false}
use Rattle.pv_locks.proofs.KeyedLemmas.{found-none, found-some}
use Rattle.pv_locks.proofs.held.standing.Goals as goal
use Rattle.pv_protocol.specs.State.{Grant}

-- No grant stands at the place.
pub returns-in_default : goal.returns-in_default
returns-in_default c =
    sym (found-none (λ (g : Grant). g.txn) c.args.txn c.args.grants.now c.place_of-place.result c.requires c.place_of-place.ensures c.in_default.ensures.lookup.3)

-- The grant there is the transaction's.
pub returns-then-is_of : goal.returns-then-is_of
returns-then-is_of c =
    sym (found-some (λ (g : Grant). g.txn) c.args.txn c.args.grants.now c.place_of-place.result c.in-Some.grant.now true c.requires c.place_of-place.ensures
    c.in-Some.ensures.lookup.3.0 c.in-Some.ensures.lookup.1 (sym c.is_of.ensures ∙ c.if-is_of.true))

-- It is another's.
pub returns-else-is_of : goal.returns-else-is_of
returns-else-is_of c =
    sym (found-some (λ (g : Grant). g.txn) c.args.txn c.args.grants.now c.place_of-place.result c.in-Some.grant.now false c.requires c.place_of-place.ensures
    c.in-Some.ensures.lookup.3.0 c.in-Some.ensures.lookup.1 (sym c.is_of.ensures ∙ c.if-is_of.false))
