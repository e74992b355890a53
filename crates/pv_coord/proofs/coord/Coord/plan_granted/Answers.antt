use Rattle.std.proofs.Common.{◌≡◌, Some, Option, sym, ap, subst, ◌∙◌}
use Rattle.std.proofs.lemmas.Result.{IfErr-weaker, IfOk-weaker}
use Rattle.pv_coord.proofs.Arrivals.{can-apply, noticed}
use Rattle.pv_coord.proofs.Changed.{held, locks}
use Rattle.pv_coord.specs.Answers.{arrival, arrival_of, program_of, CanApply}
use Rattle.pv_coord.specs.Coordinator.{CoordMemory, Grants, locking_work}
use Rattle.pv_coord.specs.Work.{Work}
use Rattle.pv_coord.proofs.coord.Coord.plan_granted.Goals as goal

pub returns-clause-answer : goal.returns-clause-answer
returns-clause-answer c =
    let grants : Grants = record { txn = c.args.txn; taken = record { site = c.args.from.0; grant = c.args.grant; values = c.args.values.now } } in
    let there : Some c.in-Some.entry.now ≡ locking_work c.args.self.now.contents c.args.txn =
    c.in-Some.ensures ∙ ap (held locks c.args.txn) c.deref.ensures.value
    ∙ ap (λ (memory : CoordMemory). locking_work memory.contents c.args.txn) c.self.view_is in
    IfOk-weaker c.plan_grant.result _ _
    (λ answer is. subst (λ (work : Option Work). arrival_of (program_of work) answer ≡ arrival work grants) there is) c.plan_grant.ensures.answer

pub returns-clause-planned : goal.returns-clause-planned
returns-clause-planned c =
    let grants : Grants = record { txn = c.args.txn; taken = record { site = c.args.from.0; grant = c.args.grant; values = c.args.values.now } } in
    let there : Some c.in-Some.entry.now ≡ locking_work c.args.self.now.contents c.args.txn =
    c.in-Some.ensures ∙ ap (held locks c.args.txn) c.deref.ensures.value
    ∙ ap (λ (memory : CoordMemory). locking_work memory.contents c.args.txn) c.self.view_is in
    IfOk-weaker c.plan_grant.result _ _
    (λ answer is. subst (CanApply c.args.self.now.contents)
    (sym (subst (λ (work : Option Work). arrival_of (program_of work) answer ≡ arrival work grants) there is)) (can-apply c.args.self.now.contents grants))
    c.plan_grant.ensures.answer

pub returns-clause-memory : goal.returns-clause-memory
returns-clause-memory c =
    let grants : Grants = record { txn = c.args.txn; taken = record { site = c.args.from.0; grant = c.args.grant; values = c.args.values.now } } in
    let there : Some c.in-Some.entry.now ≡ locking_work c.args.self.now.contents c.args.txn =
    c.in-Some.ensures ∙ ap (held locks c.args.txn) c.deref.ensures.value
    ∙ ap (λ (memory : CoordMemory). locking_work memory.contents c.args.txn) c.self.view_is in
    IfErr-weaker c.plan_grant.result _ _ (λ _ fit is. noticed c.in-Some.entry.now grants fit (ap (λ (work : Option Work). arrival work grants) there ∙ is)) c.plan_grant.ensures.memory
