-- What comes of opening the site, by why it isn't opened.
use Rattle.std.proofs.Common.{Err, sym, subst}
use Rattle.pv_ckpt.specs.CkptModel.{ckpt_model}
use Rattle.pv_ckpt.specs.declared.ckpt_log.CkptLog.{CkptLog}
use Rattle.pv_launch.specs.Starting.{Begins}
use Rattle.pv_launch.specs.declared.not_started.NotStarted.TheVariants.{Failed, Misread, NoMemory}
use Rattle.pv_launch.proofs.StartLemmas.{found-then, site-failed, site-in-vain, site-misread}
use Rattle.pv_site.specs.Opens.{Opens}
use Rattle.pv_site.specs.declared.error.OpenError.{OpenError}
use Rattle.pv_site.specs.declared.error.OpenError.TheVariants as refused
use Rattle.pv_launch.proofs.starting.begun.Goals as goal

pub returns-in-Ok : goal.returns-in-Ok
returns-in-Ok g c = λ disk opens.
    found-then g.D.Disk.model c.args.site.0 c.args.catalog.now disk c.args.log opens c.in-Ok.site c.in-Ok.ensures.opened c.in-Ok.ensures.ready c.found_empty.result c.found_empty.ensures

pub returns-in-Err-Failed : goal.returns-in-Err-Failed
returns-in-Err-Failed g c = λ disk opens.
    let M = g.D.Disk.model in
    let n = c.args.site.0 in
    let catalog = c.args.catalog.now in
    subst (λ back. Begins M n catalog disk (Err (Failed back))) (sym c.close.ensures)
    (site-failed M n catalog disk c.args.log opens c.in-Err-Failed.log
    (subst (λ (why : OpenError (CkptLog g.row.D.Denot)). Opens (ckpt_model M) c.args.log n catalog (Err why)) c.in-Err-Failed.field-0-is c.in-Err-Failed.ensures.opened))

pub returns-in-Err-NoMemory : goal.returns-in-Err-NoMemory
returns-in-Err-NoMemory g c = λ disk opens.
    let M = g.D.Disk.model in
    let n = c.args.site.0 in
    let catalog = c.args.catalog.now in
    let opened : Opens (ckpt_model M) c.args.log n catalog (Err (refused.NoMemory c.in-Err-NoMemory.log)) =
    subst (λ (why : OpenError (CkptLog g.row.D.Denot)). Opens (ckpt_model M) c.args.log n catalog (Err why)) c.in-Err-NoMemory.field-0-is c.in-Err-NoMemory.ensures.opened in
    subst (λ back. Begins M n catalog disk (Err (NoMemory back))) (sym c.close-in-Err-NoMemory.ensures)
    (site-in-vain M n catalog disk c.args.log opens c.in-Err-NoMemory.log opened.0 opened.1)

pub returns-in-Err-NotOurs : goal.returns-in-Err-NotOurs
returns-in-Err-NotOurs g c = λ disk opens.
    let M = g.D.Disk.model in
    let n = c.args.site.0 in
    let catalog = c.args.catalog.now in
    subst (λ back. Begins M n catalog disk (Err (Misread back))) (sym c.close-in-Err-NotOurs.ensures)
    (site-misread M n catalog disk c.args.log opens c.requires.least (refused.NotOurs c.in-Err-NotOurs.log c.in-Err-NotOurs.field-0-1) tt
    (subst (λ (why : OpenError (CkptLog g.row.D.Denot)). Opens (ckpt_model M) c.args.log n catalog (Err why)) c.in-Err-NotOurs.field-0-is c.in-Err-NotOurs.ensures.opened))

pub returns-in-Err-BadRecord : goal.returns-in-Err-BadRecord
returns-in-Err-BadRecord g c = λ disk opens.
    let M = g.D.Disk.model in
    let n = c.args.site.0 in
    let catalog = c.args.catalog.now in
    subst (λ back. Begins M n catalog disk (Err (Misread back))) (sym c.close-in-Err-BadRecord.ensures)
    (site-misread M n catalog disk c.args.log opens c.requires.least (refused.BadRecord c.in-Err-BadRecord.log c.in-Err-BadRecord.field-0-1) tt
    (subst (λ (why : OpenError (CkptLog g.row.D.Denot)). Opens (ckpt_model M) c.args.log n catalog (Err why)) c.in-Err-BadRecord.field-0-is c.in-Err-BadRecord.ensures.opened))

pub returns-in-Err-TooManyOutcomes : goal.returns-in-Err-TooManyOutcomes
returns-in-Err-TooManyOutcomes g c = λ disk opens.
    let M = g.D.Disk.model in
    let n = c.args.site.0 in
    let catalog = c.args.catalog.now in
    subst (λ back. Begins M n catalog disk (Err (Misread back))) (sym c.close-in-Err-TooManyOutcomes.ensures)
    (site-misread M n catalog disk c.args.log opens c.requires.least (refused.TooManyOutcomes c.in-Err-TooManyOutcomes.log c.in-Err-TooManyOutcomes.field-0-1) tt
    (subst (λ (why : OpenError (CkptLog g.row.D.Denot)). Opens (ckpt_model M) c.args.log n catalog (Err why)) c.in-Err-TooManyOutcomes.field-0-is c.in-Err-TooManyOutcomes.ensures.opened))

pub returns-in-Err-EpochsSpent : goal.returns-in-Err-EpochsSpent
returns-in-Err-EpochsSpent g c = λ disk opens.
    let M = g.D.Disk.model in
    let n = c.args.site.0 in
    let catalog = c.args.catalog.now in
    subst (λ back. Begins M n catalog disk (Err (Misread back))) (sym c.close-in-Err-EpochsSpent.ensures)
    (site-misread M n catalog disk c.args.log opens c.requires.least (refused.EpochsSpent c.in-Err-EpochsSpent.log) tt
    (subst (λ (why : OpenError (CkptLog g.row.D.Denot)). Opens (ckpt_model M) c.args.log n catalog (Err why)) c.in-Err-EpochsSpent.field-0-is c.in-Err-EpochsSpent.ensures.opened))

pub returns-in-Err-Full : goal.returns-in-Err-Full
returns-in-Err-Full g c = λ disk opens.
    let M = g.D.Disk.model in
    let n = c.args.site.0 in
    let catalog = c.args.catalog.now in
    subst (λ back. Begins M n catalog disk (Err (Misread back))) (sym c.close-in-Err-Full.ensures)
    (site-misread M n catalog disk c.args.log opens c.requires.least (refused.Full c.in-Err-Full.log c.in-Err-Full.field-0-1) tt
    (subst (λ (why : OpenError (CkptLog g.row.D.Denot)). Opens (ckpt_model M) c.args.log n catalog (Err why)) c.in-Err-Full.field-0-is c.in-Err-Full.ensures.opened))
