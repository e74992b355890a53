use Rattle.std.proofs.Common.{◌∷◌, [], All, subst, sym}
use Rattle.std.proofs.lemmas.List.Elements.{All-append, All-cons, All-nil}
use Rattle.pv_merge.proofs.events.push_events.Goals as goal
use Rattle.pv_script.specs.ScheduleView.{HasPlan}

pub returns-clause-plans : goal.returns-clause-plans
returns-clause-plans c = λ catalog planned plans.
    let P = HasPlan catalog in
    let event = c.in_ok-event.event in
    subst (All P) (sym c.in_ok-push.ensures.items)
    (All-append P _ (event ∷ []) (c.in_ok-push_fault.ensures.plans catalog plans) (All-cons P event [] (c.in_ok-event.ensures.plan catalog planned) (All-nil P)))
