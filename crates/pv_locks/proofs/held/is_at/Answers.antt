use Rattle.std.proofs.Common.{◌≡◌, Bool, true, false, Some, None, refl, sym, ◌∙◌, ap}
use Rattle.std.specs.Prelude.{is_some, if◌then◌else◌}
use Rattle.std.proofs.lemmas.List.{get_or_default}
use Rattle.pv_locks.proofs.KeyedLemmas.{found-none, found-some}
use Rattle.pv_locks.proofs.held.is_at.Goals as goal
use Rattle.pv_protocol.specs.State.{Grant}

some-if : (b : Bool) (g : Grant) → is_some (if b then Some g else None) ≡ b
some-if true g = refl
some-if false g = refl

-- The grant there is the transaction's, or it has none.
pub returns-in-Some-clause-stands : goal.returns-in-Some-clause-stands
returns-in-Some-clause-stands c =
    sym (ap is_some (found-some (λ (g : Grant). g.txn) c.args.txn c.args.grants.now c.args.place c.in-Some.grant.now c.is_of.result c.requires.order c.requires.place
    c.in-Some.ensures.lookup.3.0 c.in-Some.ensures.lookup.1 (sym c.is_of.ensures)) ∙ some-if c.is_of.result c.in-Some.grant.now)

pub returns-in-Some-clause-there : goal.returns-in-Some-clause-there
returns-in-Some-clause-there c holds grant =
    found-some (λ (g : Grant). g.txn) c.args.txn c.args.grants.now c.args.place c.in-Some.grant.now true c.requires.order c.requires.place
    c.in-Some.ensures.lookup.3.0 c.in-Some.ensures.lookup.1 (sym c.is_of.ensures ∙ holds)
    ∙ ap Some (c.in-Some.ensures.lookup.1 ∙ get_or_default c.args.grants.now c.args.place c.in-Some.grant.now grant c.in-Some.ensures.lookup.3.0)

pub returns-in-None-clause-stands : goal.returns-in-None-clause-stands
returns-in-None-clause-stands c =
    sym (ap is_some (found-none (λ (g : Grant). g.txn) c.args.txn c.args.grants.now c.args.place c.requires.order c.requires.place c.in-None.ensures.lookup.3))
