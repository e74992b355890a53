-- What holding an output comes to.
use Rattle.std.proofs.Common.{◌≡◌, true, Err, inl, inr, refl, subst}
use Rattle.std.specs.Prelude.{⊤}
use Rattle.pv_disk.specs.MemLaws.{mem_model}
use Rattle.pv_ckpt.specs.CkptModel.{ckpt_model}
use Rattle.pv_law_outbox.specs.Runs.{MayWrite}
use Rattle.pv_law_outbox.specs.State.{State, held, is_held}
use Rattle.pv_outbox.specs.Calls.{Holds}
use Rattle.pv_outbox.specs.declared.error.BoxError.{BoxError}
use Rattle.pv_outbox_run.specs.declared.told.Told.TheVariants as told
use Rattle.pv_outbox_script.specs.declared.event.Event.TheVariants.{Hold}
use Rattle.pv_outbox_run.proofs.CellLemmas.{told-fallen, told-full, told-same, told-written}
use Rattle.pv_outbox_run.proofs.cell.held.Goals as goal

pub hold-requires-clause-usable : goal.hold-requires-clause-usable
hold-requires-clause-usable c = c.requires.some.1.usable

pub returns-in-Ok : goal.returns-in-Ok
returns-in-Ok c = λ box is.
    let did = c.in-Ok.ensures.hold is.is_up in
    let may = subst (λ (state : State). MayWrite state (held c.args.output c.args.when.now)) is.state did.0 in
    told-written c.args.outbox box is c.appends_to_moored_logs.ensures c.contents_tell_records.ensures.more (Hold c.args.output c.args.when.now) (held c.args.output c.args.when.now)
    (told.Held c.args.output) (λ says next tells. inr (may, tells)) c.armed_logs.ensures.intact c.hold.new.self did.1 c.in-Ok.ensures.usable

pub returns-in-Err-Again : goal.returns-in-Err-Again
returns-in-Err-Again c = λ box is.
    let did =
    subst (λ (e : BoxError). Holds (ckpt_model mem_model) c.args.outbox c.hold.new.self c.args.output c.args.when.now {X = ⊤} (Err e)) c.in-Err-Again.field-0-is
    (c.in-Err-Again.ensures.hold is.is_up) in
    told-same c.args.outbox c.hold.new.self box (Hold c.args.output c.args.when.now) (told.Again c.args.output) is did.1
    (inl (subst (λ (state : State). is_held state c.args.output ≡ true) is.state did.0, (refl, refl)))

pub returns-in-Err-Full : goal.returns-in-Err-Full
returns-in-Err-Full c = λ box is.
    let did =
    subst (λ (e : BoxError). Holds (ckpt_model mem_model) c.args.outbox c.hold.new.self c.args.output c.args.when.now {X = ⊤} (Err e)) c.in-Err-Full.field-0-is
    (c.in-Err-Full.ensures.hold is.is_up) in
    let may = subst (λ (state : State). MayWrite state (held c.args.output c.args.when.now)) is.state did.0 in
    told-full c.args.outbox box is c.appends_to_moored_logs.ensures c.contents_tell_records.ensures.more (Hold c.args.output c.args.when.now) (held c.args.output c.args.when.now)
    (told.Held c.args.output) (λ says next tells. inr (may, tells)) c.hold.new.self c.in-Err-Full.length did.1

pub returns-in-Err-Failed : goal.returns-in-Err-Failed
returns-in-Err-Failed c = λ box is.
    let did =
    subst (λ (e : BoxError). Holds (ckpt_model mem_model) c.args.outbox c.hold.new.self c.args.output c.args.when.now {X = ⊤} (Err e)) c.in-Err-Failed.field-0-is
    (c.in-Err-Failed.ensures.hold is.is_up) in
    let may = subst (λ (state : State). MayWrite state (held c.args.output c.args.when.now)) is.state did.0 in
    told-fallen c.args.outbox box is c.appends_to_moored_logs.ensures c.contents_tell_records.ensures.more (Hold c.args.output c.args.when.now) (held c.args.output c.args.when.now)
    (told.Held c.args.output) (λ says next tells. inr (may, tells)) c.hold.new.self did.1 c.fallen.result c.fallen.ensures
