-- A disk that was handed out keeps its records, and is back.
use Rattle.std.proofs.Common.{refl}
use Rattle.std.proofs.lemmas.Result.{IfOk-at_ok}
use Rattle.pv_show.specs.Bays.{UsesDisk, not_handed_out, one_more}
use Rattle.pv_upgrade.proofs.SiteLemmas.{site-upgraded}
use Rattle.pv_upgrade.specs.Keeping.{KeepsRecords}
use Rattle.pv_upgrade.specs.UpgradeText.{upgrade_text}
use Rattle.pv_upgrade.specs.Upgrading.{Upgrades}
use Rattle.pv_upgrade.proofs.site.upgrade_site.Goals as goal

pub returns-in-Err-Failed-clause-keeps : goal.returns-in-Err-Failed-clause-keeps
returns-in-Err-Failed-clause-keeps g c = λ sites first within before.
    not_handed_out c.args.bay.now c.disk.new.self c.args.site.0 c.in-Err-Failed.field-0 within before c.in-Err-Failed.ensures.effect

pub returns-in-Err-NoMemory-clause-keeps : goal.returns-in-Err-NoMemory-clause-keeps
returns-in-Err-NoMemory-clause-keeps g c = λ sites first within before.
    not_handed_out c.args.bay.now c.disk.new.self c.args.site.0 c.in-Err-NoMemory.field-0 within before c.in-Err-NoMemory.ensures.effect

pub returns-in_err-told-clause-keeps : goal.returns-in_err-told-clause-keeps
returns-in_err-told-clause-keeps g c = λ sites first within before.
    let used : UsesDisk g.B.Bay.model g.B.D.Disk.model (KeepsRecords g.B.D.Disk.model) c.args.bay.now c.back.new.self c.args.site.0 c.in-Ok.disk c.upgrade_disk-disk.result.0 =
    record { out = c.disk.new.self; hands_out = c.in-Ok.ensures.effect; uses = c.upgrade_disk-disk.ensures.keeps; takes_back = c.back.ensures.effect } in
    one_more c.args.bay.now c.back.new.self c.args.site.0 c.in-Ok.disk c.upgrade_disk-disk.result.0 within before used

pub returns-in_err-push_told-clause-keeps : goal.returns-in_err-push_told-clause-keeps
returns-in_err-push_told-clause-keeps g c = λ sites first within before.
    let used : UsesDisk g.B.Bay.model g.B.D.Disk.model (KeepsRecords g.B.D.Disk.model) c.args.bay.now c.back.new.self c.args.site.0 c.in-Ok.disk c.upgrade_disk-disk.result.0 =
    record { out = c.disk.new.self; hands_out = c.in-Ok.ensures.effect; uses = c.upgrade_disk-disk.ensures.keeps; takes_back = c.back.ensures.effect } in
    one_more c.args.bay.now c.back.new.self c.args.site.0 c.in-Ok.disk c.upgrade_disk-disk.result.0 within before used

pub returns-clause-text : goal.returns-clause-text
returns-clause-text g c =
    let used : UsesDisk g.B.Bay.model g.B.D.Disk.model (KeepsRecords g.B.D.Disk.model) c.args.bay.now c.back.new.self c.args.site.0 c.in-Ok.disk c.upgrade_disk-disk.result.0 =
    record { out = c.disk.new.self; hands_out = c.in-Ok.ensures.effect; uses = c.upgrade_disk-disk.ensures.keeps; takes_back = c.back.ensures.effect } in
    let M = g.B.D.Disk.model in
    let taken = c.in-Ok.disk in
    let given = c.upgrade_disk-disk.result.0 in
    let upgrades = IfOk-at_ok (Upgrades M c.args.limit taken given) c.in_ok-told.was c.upgrade_disk-disk.ensures.upgrades in (
      upgrade_text c.args.site.0 c.in_ok-told.field-0,
      c.in_ok-push_told.ensures,
      site-upgraded g.B.Bay.model M c.args.limit c.args.bay.now c.back.new.self c.args.site.0 taken given used c.in_ok-told.field-0 (upgrade_text c.args.site.0 c.in_ok-told.field-0) upgrades refl,
    )

pub returns-clause-keeps : goal.returns-clause-keeps
returns-clause-keeps g c = λ sites first within before.
    let used : UsesDisk g.B.Bay.model g.B.D.Disk.model (KeepsRecords g.B.D.Disk.model) c.args.bay.now c.back.new.self c.args.site.0 c.in-Ok.disk c.upgrade_disk-disk.result.0 =
    record { out = c.disk.new.self; hands_out = c.in-Ok.ensures.effect; uses = c.upgrade_disk-disk.ensures.keeps; takes_back = c.back.ensures.effect } in
    one_more c.args.bay.now c.back.new.self c.args.site.0 c.in-Ok.disk c.upgrade_disk-disk.result.0 within before used
