use Rattle.std.proofs.Common.{Err, subst}
use Rattle.pv_base.specs.declared.limits.TheConstants.{MAX_JOURNAL}
use Rattle.pv_disk.specs.MemDisk.{MemState}
use Rattle.pv_disk.specs.MemLaws.{mem_model}
use Rattle.pv_ckpt.specs.Opening.{Opens}
use Rattle.pv_ckpt.specs.declared.open_ckpt.OpenCkpt.{OpenCkpt}
use Rattle.pv_ckpt.specs.declared.open_ckpt.OpenCkpt.TheVariants.{Failed}
use Rattle.pv_moored.proofs.ReachedLemmas.{breaks, opens-up}
use Rattle.pv_moored.proofs.moored.open_log.Goals as goal

pub returns-in-Ok : goal.returns-in-Ok
returns-in-Ok c = λ contents standing armed holds.
    opens-up contents standing armed c.in-Ok.log (c.armed_logs.ensures.opens contents standing armed c.args.disk MAX_JOURNAL c.in-Ok.log holds c.in-Ok.ensures)
    c.in-Ok.ensures.3 c.in-Ok.ensures.5 (λ rest there. c.armed_logs.ensures.intact contents standing rest c.in-Ok.log c.in-Ok.ensures.3 c.in-Ok.ensures.4 there)

pub returns-in-Err-Failed : goal.returns-in-Err-Failed
returns-in-Err-Failed c = λ contents standing armed holds.
    let failed : Opens mem_model c.args.disk MAX_JOURNAL (Err (Failed c.in-Err-Failed.failed)) =
    subst (λ (e : OpenCkpt MemState). Opens mem_model c.args.disk MAX_JOURNAL (Err e)) c.in-Err-Failed.field-0-is c.in-Err-Failed.ensures in
    breaks contents standing armed c.in-Err-Failed.failed c.in_ok-disk-in-Err-Failed.disk c.in_ok-disk-in-Err-Failed.stops
    (λ left fired there. c.in_ok-disk-in-Err-Failed.ensures contents standing left fired there)
    (c.armed_logs.ensures.fails contents standing armed c.args.disk MAX_JOURNAL c.in-Err-Failed.failed holds failed)

pub unreachable-requires : goal.unreachable-requires
unreachable-requires c =
    let (contents, standing, armed, holds) = c.requires in
    c.armed_logs.ensures.ours contents standing armed c.args.disk MAX_JOURNAL c.in-Err-NotOurs.field-0-0 c.in-Err-NotOurs.field-0-1 holds
    (subst (λ (e : OpenCkpt MemState). Opens mem_model c.args.disk MAX_JOURNAL (Err e)) c.in-Err-NotOurs.field-0-is c.in-Err-NotOurs.ensures)
