-- What opening an outbox on its log comes to.
use Rattle.std.proofs.Common.{Err, subst}
use Rattle.pv_disk.specs.MemDisk.{MemState}
use Rattle.pv_disk.specs.MemLaws.{mem_model}
use Rattle.pv_ckpt.specs.CkptModel.{ckpt_model}
use Rattle.pv_ckpt.specs.declared.ckpt_log.CkptLog.{CkptLog}
use Rattle.pv_outbox.specs.Opens.{Opens}
use Rattle.pv_outbox.specs.declared.error.OpenOutbox.{OpenOutbox}
use Rattle.pv_outbox_run.proofs.CellLemmas.{no-bad, no-foreign, opens-up}
use Rattle.pv_outbox_run.proofs.cell.opened_on.Goals as goal

pub open-requires-clause-intact : goal.open-requires-clause-intact
open-requires-clause-intact c = c.requires.1.intact

pub open-requires-clause-up : goal.open-requires-clause-up
open-requires-clause-up c = c.requires.1.log_is.up

pub returns-in-Ok : goal.returns-in-Ok
returns-in-Ok c = λ box open_.
    opens-up c.args.log box open_ c.contents_tell_records.ensures.one c.armed_logs.ensures.reads c.in-Ok.outbox c.in-Ok.ensures.opened c.in-Ok.ensures.usable c.in-Ok.ensures.reads

pub unreachable-requires : goal.unreachable-requires
unreachable-requires c =
    no-bad c.args.log c.requires.0 c.requires.1 c.in-Err-BadRecord.field-0-0 c.in-Err-BadRecord.field-0-1
    (subst (λ (e : OpenOutbox (CkptLog MemState)). Opens (ckpt_model mem_model) c.args.log (Err e)) c.in-Err-BadRecord.field-0-is c.in-Err-BadRecord.ensures.opened)

pub unreachable-requires-in-Err-NotOurs : goal.unreachable-requires-in-Err-NotOurs
unreachable-requires-in-Err-NotOurs c =
    no-foreign c.args.log c.requires.0 c.requires.1 c.in-Err-NotOurs.field-0-0 c.in-Err-NotOurs.field-0-1
    (subst (λ (e : OpenOutbox (CkptLog MemState)). Opens (ckpt_model mem_model) c.args.log (Err e)) c.in-Err-NotOurs.field-0-is c.in-Err-NotOurs.ensures.opened)
