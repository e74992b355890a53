-- A report is misplaced somewhere, or passes a limit, or is compared.
use Rattle.std.proofs.Common.{◌≡◌, IfSome, List, None, refl, sym, subst, ◌∙◌}
use Rattle.std.specs.Prelude.{ℤ}
use Rattle.std.proofs.lemmas.Result.{IfOk-weaker}
use Rattle.pv_audit.specs.Findings as model
use Rattle.pv_audit.specs.Findings.{CanBeRun}
use Rattle.pv_audit.specs.Limits.{PassesLimit}
use Rattle.pv_audit.specs.Reports.{Report, misplaced, order_of}
use Rattle.pv_audit.specs.RunView.{limit_of}
use Rattle.pv_audit.specs.ToldView.{AreOutcomesIn, CanRun, report_of}
use Rattle.pv_audit.specs.Values.{AreAllValuesAfter}
use Rattle.pv_audit.specs.declared.values.RunError.{RunError}
use Rattle.pv_audit.proofs.AuditLemmas.{judged}
use Rattle.pv_base.specs.Polyvalue.{Case}
use Rattle.pv_audit.proofs.auditing.audit_one.Goals as goal

pub returns-in-Some : goal.returns-in-Some
returns-in-Some c = λ requests first.
    (model.no_order c.in-Some.txn, refl, sym (c.misplaced.ensures requests (c.in_ok-outcomes.ensures requests) first) ∙ c.in-Some.is)

pub returns-in-Ok : goal.returns-in-Ok
returns-in-Ok c = λ requests first.
    let catalog = c.args.catalog.now in
    let told : Report = report_of requests c.args.head in
    let sorted : AreOutcomesIn c.in_ok-outcomes.outcomes told = c.in_ok-outcomes.ensures requests in
    let placed : misplaced told ≡ None = sym (c.misplaced.ensures requests sorted first) ∙ c.in_default.is in
    let run : CanRun c.args.begun.now c.in_ok-outcomes.outcomes told = record { requests = first; sorted = sorted; placed = placed } in
    let can : CanBeRun catalog told = record { placed = placed; narrow = c.in-Ok.ensures.within told run refl } in
    let after : AreAllValuesAfter catalog told (order_of told) c.deref.result.now =
    subst (λ (values : List (List (Case ℤ))). AreAllValuesAfter catalog told (order_of told) values) (sym c.deref.ensures.value) (c.in-Ok.ensures.values told run refl) in
    IfOk-weaker c.compare_items.result _ _ (λ found agrees. judged catalog told c.args.report found can agrees)
    (c.compare_items.ensures catalog told sorted placed after c.requires.items refl)

pub returns-in-Err-Limit : goal.returns-in-Err-Limit
returns-in-Err-Limit c = λ requests first.
    let told : Report = report_of requests c.args.head in
    let sorted : AreOutcomesIn c.in_ok-outcomes.outcomes told = c.in_ok-outcomes.ensures requests in
    let placed : misplaced told ≡ None = sym (c.misplaced.ensures requests sorted first) ∙ c.in_default.is in
    let run : CanRun c.args.begun.now c.in_ok-outcomes.outcomes told = record { requests = first; sorted = sorted; placed = placed } in
    (model.limit c.in-Err-Limit.names, (cc c.in-Err-Limit.names-is), (placed, subst (λ (error : RunError). IfSome (limit_of error) (PassesLimit c.args.catalog.now told)) c.in-Err-Limit.field-0-is (c.in-Err-Limit.ensures.limit told run refl)))
