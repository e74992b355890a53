-- What opening a decider on its log comes to.
use Rattle.std.proofs.Common.{Err, subst}
use Rattle.pv_ckpt.specs.CkptModel.{ckpt_model}
use Rattle.pv_ckpt.specs.declared.ckpt_log.CkptLog.{CkptLog}
use Rattle.pv_disk.specs.MemDisk.{MemState}
use Rattle.pv_disk.specs.MemLaws.{mem_model}
use Rattle.pv_quorum.specs.Opens.{Opens}
use Rattle.pv_quorum.specs.declared.error.OpenDecider.{OpenDecider}
use Rattle.pv_quorum_run.proofs.CellLemmas.{no-bad, no-foreign, opens-up}
use Rattle.pv_quorum_run.proofs.cell.opened_on.Goals as goal

pub open-requires-clause-intact : goal.open-requires-clause-intact
open-requires-clause-intact c = c.requires.seat.1.intact

pub open-requires-clause-up : goal.open-requires-clause-up
open-requires-clause-up c = c.requires.seat.1.holds.up

pub returns-in-Ok : goal.returns-in-Ok
returns-in-Ok c = λ seat is.
    opens-up c.args.count c.args.me c.args.log seat is c.contents_tell_records.ensures c.armed_logs.ensures.reads c.in-Ok.up c.in-Ok.ensures.opened c.in-Ok.ensures.ready c.in-Ok.ensures.reads

pub unreachable-requires : goal.unreachable-requires
unreachable-requires c =
    no-bad c.args.count c.args.me c.args.log c.requires.seat.0 c.requires.seat.1 c.in-Err-BadRecord.field-0-0 c.in-Err-BadRecord.field-0-1
    (subst (λ (e : OpenDecider (CkptLog MemState)). Opens (ckpt_model mem_model) c.args.log c.args.me c.args.count (Err e)) c.in-Err-BadRecord.field-0-is c.in-Err-BadRecord.ensures.opened)

pub unreachable-requires-in-Err-NotOurs : goal.unreachable-requires-in-Err-NotOurs
unreachable-requires-in-Err-NotOurs c =
    no-foreign c.args.count c.args.me c.args.log c.requires.seat.0 c.requires.seat.1 c.in-Err-NotOurs.field-0-0 c.in-Err-NotOurs.field-0-1
    (subst (λ (e : OpenDecider (CkptLog MemState)). Opens (ckpt_model mem_model) c.args.log c.args.me c.args.count (Err e)) c.in-Err-NotOurs.field-0-is c.in-Err-NotOurs.ensures.opened)
