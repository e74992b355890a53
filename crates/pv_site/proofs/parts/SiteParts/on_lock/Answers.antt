use Rattle.std.proofs.Common.{◌≡◌, ◌∙◌, ◌+◌, false, Ok, Err, List, map, ap, refl, subst, sym}
use Rattle.std.specs.Prelude.{IfOk, IfSome}
use Rattle.pv_base.specs.Catalog.{Declared}
use Rattle.pv_base.specs.declared.grant.GrantId.{GrantId}
use Rattle.pv_format.specs.Message.{granted}
use Rattle.pv_locks.specs.GrantAnswer.{answer_to, cause_of}
use Rattle.pv_locks.specs.LockTable as table
use Rattle.pv_locks.specs.LockTable.{LockTable}
use Rattle.pv_locks.specs.declared.plan.GrantPlan.TheVariants as plan
use Rattle.pv_locks.specs.declared.plan.LockError.{LockError}
use Rattle.pv_locks.specs.declared.plan.LockError.TheVariants as error
use Rattle.pv_model.specs.Alternatives.{Read}
use Rattle.pv_protocol.specs.Here.{only_to}
use Rattle.pv_protocol.specs.Lock.{is_lock_ignored}
use Rattle.pv_site.proofs.Answered.{keeping-message, keeping-note, keeping-nothing, keeping-sends, with-nothing}
use Rattle.pv_site.proofs.Locked.{kept-room, lock-granted, lock-ignored, lock-step}
use Rattle.pv_site.specs.SiteParts.{here_of}
use Rattle.pv_site.specs.Shares.{shown_values}
use Rattle.pv_site.specs.Values.{note_of, outgoing_of}
use Rattle.pv_site.specs.declared.input.Step.{Step}
use Rattle.pv_site.proofs.parts.SiteParts.on_lock.Goals as goal

pub returns-then-ignores_lock : goal.returns-then-ignores_lock
returns-then-ignores_lock c =
    with-nothing c.args.self.now c.requires.tied c.nothing.result _ (record { sends = c.nothing.ensures.sends; notes = c.nothing.ensures.notes; locked = c.nothing.ensures.locked })
    (lock-ignored c.args.self.now c.args.txn c.args.wants.now c.args.from.0 (sym c.ignores_lock.ensures ∙ c.if-ignores_lock.true))

pub returns-in-Ok-Standing : goal.returns-in-Ok-Standing
returns-in-Ok-Standing c =
    let noticed : is_lock_ignored (here_of c.args.self.now) c.args.from.0 c.args.txn c.args.wants.now ≡ false = sym c.ignores_lock.ensures ∙ c.if-ignores_lock.false in
    let step = lock-step c.args.self.now c.args.txn c.args.wants.now c.args.from.0 (Ok (plan.Standing c.in-Ok-Standing.grant)) noticed
    (c.in-Ok-Standing.ensures.answer.given ∙ ap Ok c.in-Ok-Standing.field-0-is) in
    keeping-sends c.args.self.now _ (kept-room c.args.self.now c.args.txn c.args.wants.now c.requires.tied c.plan_grant.new.self c.plan_grant.ensures.unchanged) _ _ c.granting.result
    (subst (λ (catalog : Declared). IfOk c.granting.result (λ (answer : Step). map outgoing_of answer.sends.items
    ≡ only_to c.args.txn.site.0 (granted c.args.txn c.in-Ok-Standing.grant (shown_values catalog c.args.self.now.store.records c.args.wants.now))))
    c.requires.tied.store_catalog c.granting.ensures.sends)
    c.granting.ensures.notes c.granting.ensures.locked step

pub returns-in-Ok-Misfit : goal.returns-in-Ok-Misfit
returns-in-Ok-Misfit c =
    let noticed : is_lock_ignored (here_of c.args.self.now) c.args.from.0 c.args.txn c.args.wants.now ≡ false = sym c.ignores_lock.ensures ∙ c.if-ignores_lock.false in
    let says = c.nothing-in-Ok-Misfit.ensures in
    keeping-nothing c.args.self.now _ (kept-room c.args.self.now c.args.txn c.args.wants.now c.requires.tied c.plan_grant.new.self c.plan_grant.ensures.unchanged)
    c.nothing-in-Ok-Misfit.result _ (record { sends = says.sends; notes = says.notes; locked = says.locked })
    (lock-step c.args.self.now c.args.txn c.args.wants.now c.args.from.0 (Ok plan.Misfit) noticed
    (c.in-Ok-Misfit.ensures.answer.given ∙ ap Ok c.in-Ok-Misfit.field-0-is))

pub returns-in-Ok-Conflict : goal.returns-in-Ok-Conflict
returns-in-Ok-Conflict c =
    let noticed : is_lock_ignored (here_of c.args.self.now) c.args.from.0 c.args.txn c.args.wants.now ≡ false = sym c.ignores_lock.ensures ∙ c.if-ignores_lock.false in
    keeping-message c.args.self.now _ (kept-room c.args.self.now c.args.txn c.args.wants.now c.requires.tied c.plan_grant.new.self c.plan_grant.ensures.unchanged)
    _ _ _ c.sending.result c.sending.ensures.sends c.sending.ensures.notes c.sending.ensures.locked
    (lock-step c.args.self.now c.args.txn c.args.wants.now c.args.from.0 (Ok (plan.Conflict c.in-Ok-Conflict.item c.in-Ok-Conflict.holder)) noticed
    (c.in-Ok-Conflict.ensures.answer.given ∙ ap Ok c.in-Ok-Conflict.field-0-is))

pub returns-in-Err-Spent : goal.returns-in-Err-Spent
returns-in-Err-Spent c =
    let noticed : is_lock_ignored (here_of c.args.self.now) c.args.from.0 c.args.txn c.args.wants.now ≡ false = sym c.ignores_lock.ensures ∙ c.if-ignores_lock.false in
    keeping-note c.args.self.now _ (kept-room c.args.self.now c.args.txn c.args.wants.now c.requires.tied c.plan_grant.new.self c.plan_grant.ensures.unchanged)
    _ _ c.noting.result c.noting.ensures.sends c.noting.ensures.notes c.noting.ensures.locked
    (lock-step c.args.self.now c.args.txn c.args.wants.now c.args.from.0 (Err error.Spent) noticed
    (subst (λ (e : LockError). IfSome (cause_of e) (λ (cause : LockError). answer_to c.args.self.now.locks c.args.txn c.args.wants.now ≡ Err cause)) c.in-Err-Spent.field-0-is
    c.in-Err-Spent.ensures.answer.refused))

pub returns-in_ok-sends-in-Ok-Fresh : goal.returns-in_ok-sends-in-Ok-Fresh
returns-in_ok-sends-in-Ok-Fresh c =
    let noticed : is_lock_ignored (here_of c.args.self.now) c.args.from.0 c.args.txn c.args.wants.now ≡ false = sym c.ignores_lock.ensures ∙ c.if-ignores_lock.false in
    let step = lock-step c.args.self.now c.args.txn c.args.wants.now c.args.from.0 (Ok (plan.Fresh c.in-Ok-Fresh.change)) noticed
    (c.in-Ok-Fresh.ensures.answer.given ∙ ap Ok c.in-Ok-Fresh.field-0-is) in
    let values = c.in_ok-values-in-Ok-Fresh in
    let sent : map outgoing_of c.push_reserved.new.self.items ≡ only_to c.args.txn.site.0 (granted c.args.txn c.apply-grant.result values.values.items) =
    rw (c.push_reserved.ensures.items, c.in_ok-sends-in-Ok-Fresh.ensures.items) refl in
    lock-granted c.args.self.now c.args.txn c.args.wants.now c.requires.tied c.apply-grant.new.self c.in-Ok-Fresh.change c.plan_grant.new.self.room _ _ step.0 step.1
    (c.apply-grant.ensures.made ∙ ap (λ (locks : LockTable). record (table.with_grant locks c.in-Ok-Fresh.change) { next = locks.next + 1 }) c.plan_grant.ensures.unchanged)
    (sent ∙ ap (λ (id : GrantId). only_to c.args.txn.site.0 (granted c.args.txn id values.values.items)) c.apply-grant.ensures.number
    ∙ ap (λ (reads : List Read). only_to c.args.txn.site.0 (granted c.args.txn c.in-Ok-Fresh.change.id reads))
    (values.ensures ∙ ap (λ (catalog : Declared). shown_values catalog c.args.self.now.store.records c.args.wants.now) c.requires.tied.store_catalog))
    (ap (map note_of) c.new.ensures.items) refl
