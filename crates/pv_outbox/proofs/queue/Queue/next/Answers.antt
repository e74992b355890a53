-- The first candidate is the next output, or is dropped.
use Rattle.std.proofs.Common.{refl, sym, subst}
use Rattle.pv_outbox.specs.Covers.{Covers, Queued}
use Rattle.pv_outbox.proofs.CoversLemmas.{covers-dropped, first-found, none-found}
use Rattle.pv_outbox.proofs.ListLemmas.{match-none}
use Rattle.pv_outbox.proofs.queue.Queue.next.Goals as goal

pub loop-place-init : goal.loop-place-init
loop-place-init c = subst (λ (queue : Queued). Covers c.args.facts.now.state queue) (sym c.self.view_is) c.requires

pub loop-place-preserved : goal.loop-place-preserved
loop-place-preserved c =
    covers-dropped c.args.facts.now.state _ _ c.in-Some.place refl c.in-Some.ensures.first c.drop_first.ensures.others
    (match-none _ _ c.ready_at.result c.in_default-ready_at.is c.ready_at.ensures) c.loop-place.invariant

pub returns-in-Some-ready_at-clause-found : goal.returns-in-Some-ready_at-clause-found
returns-in-Some-ready_at-clause-found c =
    first-found c.args.facts.now.state _ c.in-Some.place c.in-Some-ready_at.output c.loop-place.invariant c.in-Some.ensures.least c.in-Some-ready_at.ensures

pub returns-clause-found : goal.returns-clause-found
returns-clause-found c = none-found c.args.facts.now.state _ c.loop-place.invariant (match-none _ _ c.first.result c.in_default.is c.first.ensures.first)
