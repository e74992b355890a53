use Rattle.std.proofs.Common.{◌≡◌, ◌∙◌, true, sym, ap, subst}
use Rattle.pv_disk.specs.MemDisk.{MemState}
use Rattle.pv_ckpt.specs.declared.ckpt_log.CkptLog.{CkptLog}
use Rattle.pv_world.proofs.CellLemmas.{has-stopped, is-up}
use Rattle.pv_world.proofs.cell.Cell.stop.Goals as goal
use Rattle.pv_world.specs.Cells.{HasStopped}
use Rattle.pv_world.specs.declared.cell.Cell.{Cell}
use Rattle.pv_world.specs.declared.cell.Cell.TheVariants.{Down, Up}

pub returns-in-Up : goal.returns-in-Up
returns-in-Up c = λ catalog n is stands.
    let was : c.args.self.now ≡ Up c.in-Up.up = sym c.replace.ensures.value ∙ c.in-Up.is in
    let up = is-up catalog n c.args.self.now c.in-Up.up is was stands in
    let same : c.close.result ≡ c.in-Up.up.log.disk = c.close.ensures ∙ ap (λ (journal : CkptLog MemState). journal.disk) c.leave-log.ensures.log in
    subst (λ (cell : Cell). HasStopped catalog n cell (Down c.close.result c.leave-log.result.1) is is.running true) (sym was)
    (has-stopped catalog n c.in-Up.up is up c.close.result c.leave-log.result.1 same c.leave-log.ensures.left)
