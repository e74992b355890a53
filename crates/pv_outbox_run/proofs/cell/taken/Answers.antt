-- What releasing an output comes to.
use Rattle.std.proofs.Common.{Err, Ok, inl, inr, refl, subst}
use Rattle.std.specs.Prelude.{ℕ, Option}
use Rattle.pv_disk.specs.MemLaws.{mem_model}
use Rattle.pv_ckpt.specs.CkptModel.{ckpt_model}
use Rattle.pv_law_outbox.specs.Ready.{NoneReady}
use Rattle.pv_law_outbox.specs.Runs.{MayWrite}
use Rattle.pv_law_outbox.specs.State.{State, taken}
use Rattle.pv_outbox.specs.Calls.{Takes}
use Rattle.pv_outbox.specs.declared.error.BoxError.{BoxError}
use Rattle.pv_outbox_run.specs.declared.told.Told.TheVariants as told
use Rattle.pv_outbox_script.specs.declared.event.Event.TheVariants.{Take}
use Rattle.pv_outbox_run.proofs.CellLemmas.{told-fallen, told-full, told-same, told-written}
use Rattle.pv_outbox_run.proofs.cell.taken.Goals as goal

pub returns-in-Ok-Some : goal.returns-in-Ok-Some
returns-in-Ok-Some c = λ box is.
    let did =
    subst (λ (answer : Option ℕ). Takes (ckpt_model mem_model) c.args.outbox c.take.new.self (Ok answer)) c.in-Ok-Some.field-0-is
    (c.in-Ok-Some.ensures.take is.is_up) in
    let may = subst (λ (state : State). MayWrite state (taken c.in-Ok-Some.output)) is.state did.0 in
    told-written c.args.outbox box is c.appends_to_moored_logs.ensures c.contents_tell_records.ensures.more Take (taken c.in-Ok-Some.output)
    (told.Out c.in-Ok-Some.output) (λ says next tells. inr (c.in-Ok-Some.output, may, tells)) c.armed_logs.ensures.intact c.take.new.self did.1 c.in-Ok-Some.ensures.usable

pub returns-in-Ok-None : goal.returns-in-Ok-None
returns-in-Ok-None c = λ box is.
    let did =
    subst (λ (answer : Option ℕ). Takes (ckpt_model mem_model) c.args.outbox c.take.new.self (Ok answer)) c.in-Ok-None.field-0-is
    (c.in-Ok-None.ensures.take is.is_up) in
    told-same c.args.outbox c.take.new.self box Take told.Nothing is did.1
    (inl (subst (λ (state : State). NoneReady state state.held) is.state did.0, (refl, refl)))

pub returns-in-Err-Full : goal.returns-in-Err-Full
returns-in-Err-Full c = λ box is.
    let did =
    subst (λ (e : BoxError). Takes (ckpt_model mem_model) c.args.outbox c.take.new.self (Err e)) c.in-Err-Full.field-0-is
    (c.in-Err-Full.ensures.take is.is_up) in
    let may = subst (λ (state : State). MayWrite state (taken did.0)) is.state did.1 in
    told-full c.args.outbox box is c.appends_to_moored_logs.ensures c.contents_tell_records.ensures.more Take (taken did.0)
    (told.Out did.0) (λ says next tells. inr (did.0, may, tells)) c.take.new.self c.in-Err-Full.length did.2

pub returns-in-Err-Failed : goal.returns-in-Err-Failed
returns-in-Err-Failed c = λ box is.
    let did =
    subst (λ (e : BoxError). Takes (ckpt_model mem_model) c.args.outbox c.take.new.self (Err e)) c.in-Err-Failed.field-0-is
    (c.in-Err-Failed.ensures.take is.is_up) in
    let may = subst (λ (state : State). MayWrite state (taken did.0)) is.state did.1 in
    told-fallen c.args.outbox box is c.appends_to_moored_logs.ensures c.contents_tell_records.ensures.more Take (taken did.0)
    (told.Out did.0) (λ says next tells. inr (did.0, may, tells)) c.take.new.self did.2 c.fallen.result c.fallen.ensures
