-- The disk of a site, up or down, holds its log.
use Rattle.std.proofs.Common.{◌≡◌, ◌∙◌, refl, ap, subst}
use Rattle.pv_disk.specs.MemDisk.{MemState}
use Rattle.pv_ckpt.specs.declared.ckpt_log.CkptLog.{CkptLog}
use Rattle.pv_world.proofs.CloseLemmas.{log-spelled}
use Rattle.pv_world.specs.Stands.{IsDown, IsSomeSite, IsUp, StandsForSite}
use Rattle.pv_world.specs.declared.cell.Cell.{Cell}
use Rattle.pv_world.proofs.cell.Cell.close.Goals as goal

pub returns-in-Up : goal.returns-in-Up
returns-in-Up c = λ catalog n is stands.
    let up : IsUp catalog n c.in-Up.up is = subst (λ (cell : Cell). StandsForSite catalog n cell is) c.in-Up.is stands in
    let same : c.close-in-Up.result ≡ c.in-Up.up.log.disk = c.close-in-Up.ensures ∙ ap (λ (journal : CkptLog MemState). journal.disk) c.close.ensures in
    log-spelled is _ _ c.in-Up.up.log.disk c.close-in-Up.result same up.disk

pub returns-in-Down : goal.returns-in-Down
returns-in-Down c = λ catalog n is stands.
    let down : IsDown catalog n c.in-Down.disk _ is = subst (λ (cell : Cell). StandsForSite catalog n cell is) c.in-Down.is stands in
    log-spelled is _ _ c.in-Down.disk c.in-Down.disk refl down.disk

pub unreachable-requires : goal.unreachable-requires
unreachable-requires c = (subst IsSomeSite c.in-Vacant.is c.requires).3
