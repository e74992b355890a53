-- The log is opened, and then rewritten.
use Rattle.std.proofs.Common.{ℕ, sym, subst}
use Rattle.std.specs.Prelude.{IfOk, Err}
use Rattle.pv_ckpt.specs.Opening.{Opens}
use Rattle.pv_upgrade.proofs.FindLemmas.{if-upgrades-after, open-settles, settled-keeps, unopened-upgrades}
use Rattle.pv_upgrade.specs.Keeping.{KeepsRecords}
use Rattle.pv_upgrade.specs.Upgrading.{Upgrades}
use Rattle.pv_upgrade.proofs.log.replace.Goals as goal

pub returns-in-Ok-clause-keeps : goal.returns-in-Ok-clause-keeps
returns-in-Ok-clause-keeps g c =
    let M = g.D.Disk.model in
    let settles = open-settles M c.args.disk c.args.limit c.in-Ok.log c.in-Ok.ensures in
    subst (KeepsRecords M c.args.disk) (sym c.close.ensures) (settled-keeps M c.args.disk c.in-Ok.log.disk c.rewrite-told.new.log.disk settles c.rewrite-told.ensures.keeps)

pub returns-in-Ok-clause-upgrades : goal.returns-in-Ok-clause-upgrades
returns-in-Ok-clause-upgrades g c =
    let M = g.D.Disk.model in
    let log = c.in-Ok.log in
    let new = c.rewrite-told.new.log.disk in
    let settles = open-settles M c.args.disk c.args.limit log c.in-Ok.ensures in
    let upgrades = subst (λ (n : ℕ). IfOk c.rewrite-told.result (Upgrades M n log.disk new)) c.in-Ok.ensures.5 c.rewrite-told.ensures.upgrades in
    subst (λ d. IfOk c.rewrite-told.result (Upgrades M c.args.limit c.args.disk d)) (sym c.close.ensures)
    (if-upgrades-after M c.args.limit c.args.disk log.disk new c.rewrite-told.result settles upgrades)

pub returns-in-Err-NotOurs-clause-upgrades : goal.returns-in-Err-NotOurs-clause-upgrades
returns-in-Err-NotOurs-clause-upgrades g c =
    unopened-upgrades g.D.Disk.model c.args.limit c.args.disk c.in-Err-NotOurs.disk c.in-Err-NotOurs.place
    (subst (λ e. Opens g.D.Disk.model c.args.disk c.args.limit (Err e)) c.in-Err-NotOurs.field-0-is c.in-Err-NotOurs.ensures)
