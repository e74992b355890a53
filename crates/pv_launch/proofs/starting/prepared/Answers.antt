-- The disk failed when it was formatted.
use Rattle.std.proofs.Common.{Err, subst}
use Rattle.pv_ckpt.specs.Opening.{Formats}
use Rattle.pv_disk.specs.declared.disk_error.DiskError.{DiskError}
use Rattle.pv_launch.proofs.StartLemmas.{format-failed, sync-done}
use Rattle.pv_launch.proofs.starting.prepared.Goals as goal

pub returns-in-Err-Failed : goal.returns-in-Err-Failed
returns-in-Err-Failed g c =
    let M = g.D.Disk.model in
    format-failed M c.args.disk c.sync.new.self c.format.new.disk
    (sync-done M c.args.disk c.sync.new.self c.sync.result c.if-is_err.ensures.value c.sync.ensures.effect)
    (subst (λ (e : DiskError). Formats M {X = Unit {0}} c.sync.new.self c.format.new.disk (Err e)) c.in-Err-Failed.field-0-is c.in-Err-Failed.ensures)
