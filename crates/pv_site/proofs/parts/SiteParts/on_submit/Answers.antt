use Rattle.std.proofs.Common.{◌≡◌, ◌∙◌, Some, [], ◌∷◌, map, ap, refl, sym}
use Rattle.pv_base.specs.declared.txn.TxnId.{TxnId}
use Rattle.pv_coord.specs.Coordinator as own
use Rattle.pv_coord.specs.Coordinator.{Coordinator}
use Rattle.pv_coord.specs.Work.{Work}
use Rattle.pv_coord.specs.declared.error.CoordError.TheVariants as error
use Rattle.pv_protocol.specs.Lock.{lock_sends}
use Rattle.pv_protocol.specs.State.{began}
use Rattle.pv_site.proofs.Answered.{keeping-note}
use Rattle.pv_site.proofs.Begun.{submit-begun, submit-spent}
use Rattle.pv_site.proofs.Tied.{kept-same}
use Rattle.pv_site.specs.Values.{note_of}
use Rattle.pv_site.proofs.parts.SiteParts.on_submit.Goals as goal

apart : error.Spent ≡ error.NoMemory → ⊥
apart is = cc

pub returns-in-Err-Spent : goal.returns-in-Err-Spent
returns-in-Err-Spent c =
    keeping-note c.args.self.now _ (kept-same c.args.self.now c.requires.tied c.plan_begin.new.self c.plan_begin.ensures.unchanged) _ _ c.noting.result
    c.noting.ensures.sends c.noting.ensures.notes c.noting.ensures.locked
    (submit-spent c.args.self.now c.requires.tied c.args.program.now
    (c.in-Err-Spent.ensures.refused.refused (λ is. apart (sym c.in-Err-Spent.field-0-is ∙ is)) ∙ ap Some c.in-Err-Spent.field-0-is))

pub returns : goal.returns
returns c =
    let noted : map note_of c.push.new.self.items ≡ began c.change.inside.txn ∷ [] = rw (c.in_ok-push.ensures.items, c.in_ok-notes.ensures.items) refl in
    let txn-is : c.change.inside.txn ≡ c.in-Ok.change.entry.txn = sym c.change.invariant ∙ ap (λ (work : Work). work.entry.txn) c.change.view_is in
    submit-begun c.args.self.now c.requires.tied c.args.program.now c.apply_begin.new.self c.in-Ok.change c.args.plan.now.parts.items _
    c.in-Ok.ensures.refused.accepted c.in-Ok.ensures.change c.requires.plan
    (c.apply_begin.ensures.begun ∙ ap (λ (coord : Coordinator). own.beginning coord c.in-Ok.change) c.plan_begin.ensures.unchanged)
    (c.in_ok-sends.ensures ∙ ap (lock_sends c.change.inside.txn) c.deref.ensures.value ∙ ap (λ (txn : TxnId). lock_sends txn c.args.plan.now.parts.items) txn-is)
    (noted ∙ ap (λ (txn : TxnId). began txn ∷ []) txn-is) refl
