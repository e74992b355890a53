use Rattle.std.proofs.Common.{◌∙◌, ℕ, Bool, false, Option, Err, sym, ap, subst}
use Rattle.pv_disk.specs.MemDisk.{MemState}
use Rattle.pv_disk.specs.MemLaws.{mem_model}
use Rattle.pv_ckpt.specs.CkptModel.{ckpt_model}
use Rattle.pv_ckpt.specs.declared.ckpt_log.CkptLog.{CkptLog}
use Rattle.pv_protocol.specs.Records.{journal_bytes}
use Rattle.pv_protocol.specs.State.{Arm}
use Rattle.pv_site.specs.Recovered.{Remains}
use Rattle.pv_site.specs.Resumes.{Resumes}
use Rattle.pv_site.specs.declared.error.ResumeError.TheVariants as refused
use Rattle.pv_site.specs.declared.error.ResumeError.{ResumeError}
use Rattle.pv_world.proofs.RestartLemmas.{StartFails, can-be-read, can-resume, has-begun, has-no-epoch, has-no-room, is-broken, is-long, resuming-fails}
use Rattle.pv_world.proofs.restart.opened.Goals as goal
use Rattle.pv_world.specs.Cells.{CanBeRead, HasBegun, KeepsRecords}
use Rattle.pv_world.specs.Restarts.{CanGoOn}
use Rattle.pv_world.specs.declared.cell.Cell.TheVariants.{Down, Up}
use Rattle.pv_world.specs.declared.cell.Start.TheVariants as start

pub resume-requires : goal.resume-requires
resume-requires c =
    let can : CanGoOn c.args.catalog.now c.args.site.0 c.args.log c.args.left = c.requires.replayable in
    can-resume c.armed_logs.ensures c.args.catalog.now c.args.site.0 c.args.log c.args.left can.is can.synced c.logs_tell_of_records.ensures.size c.requires.site

pub fallen-requires-clause-length : goal.fallen-requires-clause-length
fallen-requires-clause-length c =
    let can : CanGoOn c.args.catalog.now c.args.site.0 c.args.log c.args.left = c.requires.replayable in
    let failed : Resumes (ckpt_model mem_model) c.args.log c.args.left false (Err (refused.Failed c.in-Err-Failed.log c.in-Err-Failed.left)) =
    subst (λ (e : ResumeError (CkptLog MemState)). Resumes (ckpt_model mem_model) c.args.log c.args.left false (Err e)) c.in-Err-Failed.field-0-is c.in-Err-Failed.ensures.resumed in
    is-long c.armed_logs.ensures c.args.catalog.now c.args.site.0 c.args.log c.args.left can.is can.synced c.logs_tell_of_records.ensures.size c.length-before.result
    c.length-before.ensures
    ∙ ap (λ (now : Remains). journal_bytes now.records) (sym failed.0)

pub fallen-requires-clause-readable : goal.fallen-requires-clause-readable
fallen-requires-clause-readable c =
    let can : CanGoOn c.args.catalog.now c.args.site.0 c.args.log c.args.left = c.requires.replayable in
    let failed : Resumes (ckpt_model mem_model) c.args.log c.args.left false (Err (refused.Failed c.in-Err-Failed.log c.in-Err-Failed.left)) =
    subst (λ (e : ResumeError (CkptLog MemState)). Resumes (ckpt_model mem_model) c.args.log c.args.left false (Err e)) c.in-Err-Failed.field-0-is c.in-Err-Failed.ensures.resumed in
    subst (λ (left : Remains). (armed : Option Arm) × (fired : Option Bool) × CanBeRead left armed fired c.close-in-Err-Failed.result) (sym failed.0)
    (can-be-read c.args.catalog.now c.args.site.0 can.is c.args.left c.close-in-Err-Failed.result can.synced.keeps
    (subst (StartFails c.args.catalog.now c.args.site.0 can.is) (sym c.close-in-Err-Failed.ensures)
    (resuming-fails c.armed_logs.ensures c.args.catalog.now c.args.site.0 c.args.log c.args.left can.is can.synced c.in-Err-Failed.log failed.1))
    can.replayable can.after)

pub returns-in-Err-Failed : goal.returns-in-Err-Failed
returns-in-Err-Failed c = λ is synced.
    let failed : Resumes (ckpt_model mem_model) c.args.log c.args.left false (Err (refused.Failed c.in-Err-Failed.log c.in-Err-Failed.left)) =
    subst (λ (e : ResumeError (CkptLog MemState)). Resumes (ckpt_model mem_model) c.args.log c.args.left false (Err e)) c.in-Err-Failed.field-0-is c.in-Err-Failed.ensures.resumed in
    let fails : StartFails c.args.catalog.now c.args.site.0 is c.close-in-Err-Failed.result =
    subst (StartFails c.args.catalog.now c.args.site.0 is) (sym c.close-in-Err-Failed.ensures)
    (resuming-fails c.armed_logs.ensures c.args.catalog.now c.args.site.0 c.args.log c.args.left is synced c.in-Err-Failed.log failed.1) in
    let keeps : KeepsRecords c.args.catalog.now c.args.site.0 is.records c.in-Err-Failed.left =
    subst (KeepsRecords c.args.catalog.now c.args.site.0 is.records) (sym failed.0) synced.keeps in
    is-broken c.args.catalog.now c.args.site.0 is c.in-Err-Failed.left c.close-in-Err-Failed.result c.in_ok-cell-in-Err-Failed.cell c.in_ok-cell-in-Err-Failed.stops keeps fails
    c.in_ok-cell-in-Err-Failed.ensures

pub returns-in-Ok : goal.returns-in-Ok
returns-in-Ok c = λ is synced.
    let begun : HasBegun c.args.catalog.now c.args.site.0 (Up c.in-Ok.up) is (start.Started c.in-Ok.up.epoch) =
    has-begun c.armed_logs.ensures c.args.catalog.now c.args.site.0 c.args.log c.args.left is synced c.in-Ok.up c.in-Ok.ensures.resumed c.in-Ok.ensures.ready in
    subst (λ (epoch : ℕ). HasBegun c.args.catalog.now c.args.site.0 (Up c.in-Ok.up) is (start.Started epoch)) (sym c.epoch-epoch.ensures) begun

pub returns-in-Err-Full : goal.returns-in-Err-Full
returns-in-Err-Full c = λ is synced.
    subst (λ (on : MemState). HasBegun c.args.catalog.now c.args.site.0 (Down on c.in-Err-Full.left) is (start.Full c.in-Err-Full.length)) (sym c.close.ensures)
    (has-no-room c.armed_logs.ensures c.args.catalog.now c.args.site.0 c.args.log c.args.left is synced c.in-Err-Full.log c.in-Err-Full.left c.in-Err-Full.length
    (subst (λ (e : ResumeError (CkptLog MemState)). Resumes (ckpt_model mem_model) c.args.log c.args.left false (Err e)) c.in-Err-Full.field-0-is c.in-Err-Full.ensures.resumed))

pub returns-in-Err-EpochsSpent : goal.returns-in-Err-EpochsSpent
returns-in-Err-EpochsSpent c = λ is synced.
    subst (λ (on : MemState). HasBegun c.args.catalog.now c.args.site.0 (Down on c.in-Err-EpochsSpent.left) is start.Spent) (sym c.close-in-Err-EpochsSpent.ensures)
    (has-no-epoch c.armed_logs.ensures c.args.catalog.now c.args.site.0 c.args.log c.args.left is synced c.in-Err-EpochsSpent.log c.in-Err-EpochsSpent.left
    (subst (λ (e : ResumeError (CkptLog MemState)). Resumes (ckpt_model mem_model) c.args.log c.args.left false (Err e)) c.in-Err-EpochsSpent.field-0-is c.in-Err-EpochsSpent.ensures.resumed))
