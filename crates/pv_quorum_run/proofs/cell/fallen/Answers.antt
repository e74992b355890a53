-- The disk is mended.
use Rattle.std.proofs.Common.{◌≡◌, ◌∙◌, ap, subst, sym}
use Rattle.pv_ckpt.specs.Armed.{Holds}
use Rattle.pv_ckpt.specs.declared.ckpt_log.CkptLog.{CkptLog}
use Rattle.pv_disk.specs.MemDisk.{MemState}
use Rattle.pv_quorum_run.proofs.cell.fallen.Goals as goal

pub returns : goal.returns
returns c = λ contents standing armed fired holds.
    let same : c.close-2.result ≡ c.args.up.log.disk = c.close-2.ensures ∙ ap (λ (log : CkptLog MemState). log.disk) c.close.ensures in
    c.in_ok-disk.ensures contents standing armed fired (subst (λ (d : MemState). Holds contents standing armed fired d) (sym same) holds)
