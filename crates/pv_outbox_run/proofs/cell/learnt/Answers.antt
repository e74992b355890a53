-- What learning an outcome comes to.
use Rattle.std.proofs.Common.{◌≡◌, Some, Err, inl, inr, refl, subst}
use Rattle.std.specs.Prelude.{⊤}
use Rattle.pv_disk.specs.MemLaws.{mem_model}
use Rattle.pv_ckpt.specs.CkptModel.{ckpt_model}
use Rattle.pv_law_outbox.specs.Runs.{MayWrite}
use Rattle.pv_law_outbox.specs.State.{State, learnt, outcome_of}
use Rattle.pv_outbox.specs.Calls.{Learns}
use Rattle.pv_outbox.specs.declared.error.BoxError.{BoxError}
use Rattle.pv_outbox_run.specs.declared.told.Told.TheVariants as told
use Rattle.pv_outbox_script.specs.declared.event.Event.TheVariants.{Learn}
use Rattle.pv_outbox_run.proofs.CellLemmas.{told-fallen, told-full, told-same, told-written}
use Rattle.pv_outbox_run.proofs.cell.learnt.Goals as goal

pub learn-requires-clause-usable : goal.learn-requires-clause-usable
learn-requires-clause-usable c = c.requires.some.1.usable

pub returns-in-Ok : goal.returns-in-Ok
returns-in-Ok c = λ box is.
    let did = c.in-Ok.ensures.learn is.is_up in
    let may = subst (λ (state : State). MayWrite state (learnt c.args.txn c.args.commits)) is.state did.0 in
    told-written c.args.outbox box is c.appends_to_moored_logs.ensures c.contents_tell_records.ensures.more (Learn c.args.txn c.args.commits) (learnt c.args.txn c.args.commits)
    (told.Learnt c.args.txn) (λ says next tells. inr (may, tells)) c.armed_logs.ensures.intact c.learn.new.self did.1 c.in-Ok.ensures.usable

pub returns-in-Err-Known : goal.returns-in-Err-Known
returns-in-Err-Known c = λ box is.
    let did =
    subst (λ (e : BoxError). Learns (ckpt_model mem_model) c.args.outbox c.learn.new.self c.args.txn c.args.commits {X = ⊤} (Err e)) c.in-Err-Known.field-0-is
    (c.in-Err-Known.ensures.learn is.is_up) in
    told-same c.args.outbox c.learn.new.self box (Learn c.args.txn c.args.commits) (told.Known c.args.txn c.in-Err-Known.known) is did.1
    (inl (c.in-Err-Known.known, subst (λ (state : State). outcome_of state c.args.txn ≡ Some c.in-Err-Known.known) is.state did.0, (refl, refl)))

pub returns-in-Err-Full : goal.returns-in-Err-Full
returns-in-Err-Full c = λ box is.
    let did =
    subst (λ (e : BoxError). Learns (ckpt_model mem_model) c.args.outbox c.learn.new.self c.args.txn c.args.commits {X = ⊤} (Err e)) c.in-Err-Full.field-0-is
    (c.in-Err-Full.ensures.learn is.is_up) in
    let may = subst (λ (state : State). MayWrite state (learnt c.args.txn c.args.commits)) is.state did.0 in
    told-full c.args.outbox box is c.appends_to_moored_logs.ensures c.contents_tell_records.ensures.more (Learn c.args.txn c.args.commits) (learnt c.args.txn c.args.commits)
    (told.Learnt c.args.txn) (λ says next tells. inr (may, tells)) c.learn.new.self c.in-Err-Full.length did.1

pub returns-in-Err-Failed : goal.returns-in-Err-Failed
returns-in-Err-Failed c = λ box is.
    let did =
    subst (λ (e : BoxError). Learns (ckpt_model mem_model) c.args.outbox c.learn.new.self c.args.txn c.args.commits {X = ⊤} (Err e)) c.in-Err-Failed.field-0-is
    (c.in-Err-Failed.ensures.learn is.is_up) in
    let may = subst (λ (state : State). MayWrite state (learnt c.args.txn c.args.commits)) is.state did.0 in
    told-fallen c.args.outbox box is c.appends_to_moored_logs.ensures c.contents_tell_records.ensures.more (Learn c.args.txn c.args.commits) (learnt c.args.txn c.args.commits)
    (told.Learnt c.args.txn) (λ says next tells. inr (may, tells)) c.learn.new.self did.1 c.fallen.result c.fallen.ensures
