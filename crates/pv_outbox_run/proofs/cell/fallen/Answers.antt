-- The disk of the log is mended.
use Rattle.std.proofs.Common.{sym, ap, subst, ◌∙◌}
use Rattle.pv_disk.specs.MemDisk.{MemState}
use Rattle.pv_ckpt.specs.Armed.{Holds}
use Rattle.pv_ckpt.specs.declared.ckpt_log.CkptLog.{CkptLog}
use Rattle.pv_outbox_run.proofs.cell.fallen.Goals as goal

pub returns : goal.returns
returns c = (
  c.in_ok-disk.stops,
  c.broken.ensures,
  λ contents standing armed fired there.
      c.in_ok-disk.ensures contents standing armed fired
      (subst (Holds contents standing armed fired) (sym (c.close-2.ensures ∙ ap (λ (log : CkptLog MemState). log.disk) c.close.ensures)) there),
)
