-- What comes of opening the log.
use Rattle.std.proofs.Common.{Ok, Err, sym, subst}
use Rattle.pv_ckpt.specs.Opening.{Opens}
use Rattle.pv_ckpt.specs.declared.open_ckpt.OpenCkpt.{OpenCkpt}
use Rattle.pv_ckpt.specs.declared.open_ckpt.OpenCkpt.TheVariants as unopened
use Rattle.pv_launch.proofs.StartLemmas.{open-failed, open-in-vain, open-misread}
use Rattle.pv_launch.specs.Starting.{Begins}
use Rattle.pv_launch.specs.declared.not_started.NotStarted.TheVariants.{Failed, Misread, NoMemory}
use Rattle.pv_launch.proofs.starting.opened.Goals as goal

pub returns-in-Ok : goal.returns-in-Ok
returns-in-Ok g c = c.begun.ensures c.args.disk (subst (λ limit. Opens g.D.Disk.model c.args.disk limit (Ok c.in-Ok.log)) c.journal.ensures.limit c.in-Ok.ensures)

pub returns-in-Err-Failed : goal.returns-in-Err-Failed
returns-in-Err-Failed g c =
    let M = g.D.Disk.model in
    let n = c.args.site.0 in
    let catalog = c.args.catalog.now in
    subst (λ (back : g.row.D.Denot). Begins M n catalog c.args.disk (Err (Failed back))) (sym c.in-Err-Failed.disk-is)
    (open-failed M n catalog c.args.disk c.in-Err-Failed.disk
    (subst (λ limit. Opens M c.args.disk limit (Err (unopened.Failed c.in-Err-Failed.disk))) c.journal.ensures.limit
    (subst (λ (why : OpenCkpt g.row.D.Denot). Opens M c.args.disk c.journal.result (Err why)) c.in-Err-Failed.field-0-is c.in-Err-Failed.ensures)))

pub returns-in-Err-NotOurs : goal.returns-in-Err-NotOurs
returns-in-Err-NotOurs g c =
    let M = g.D.Disk.model in
    let n = c.args.site.0 in
    let catalog = c.args.catalog.now in
    subst (λ (back : g.row.D.Denot). Begins M n catalog c.args.disk (Err (Misread back))) (sym c.in-Err-NotOurs.disk-is)
    (open-misread M n catalog c.args.disk c.in-Err-NotOurs.disk c.in-Err-NotOurs.field-0-1
    (subst (λ limit. Opens M c.args.disk limit (Err (unopened.NotOurs c.in-Err-NotOurs.disk c.in-Err-NotOurs.field-0-1))) c.journal.ensures.limit
    (subst (λ (why : OpenCkpt g.row.D.Denot). Opens M c.args.disk c.journal.result (Err why)) c.in-Err-NotOurs.field-0-is c.in-Err-NotOurs.ensures)))

pub returns-in-Err-NoMemory : goal.returns-in-Err-NoMemory
returns-in-Err-NoMemory g c =
    let M = g.D.Disk.model in
    let n = c.args.site.0 in
    let catalog = c.args.catalog.now in
    subst (λ (back : g.row.D.Denot). Begins M n catalog c.args.disk (Err (NoMemory back))) (sym c.in-Err-NoMemory.disk-is)
    (open-in-vain M n catalog c.args.disk c.in-Err-NoMemory.disk
    (subst (λ limit. Opens M c.args.disk limit (Err (unopened.NoMemory c.in-Err-NoMemory.disk))) c.journal.ensures.limit
    (subst (λ (why : OpenCkpt g.row.D.Denot). Opens M c.args.disk c.journal.result (Err why)) c.in-Err-NoMemory.field-0-is c.in-Err-NoMemory.ensures)))
