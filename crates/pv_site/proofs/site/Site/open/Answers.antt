-- The site goes on from what was read of its log.
use Rattle.std.proofs.Common.{sym, subst, Err}
use Rattle.pv_site.proofs.StartLemmas.{can-resume, opened, unopened-as}
use Rattle.pv_site.proofs.site.Site.open.Goals as goal
use Rattle.pv_site.specs.Opens.{Opens}
use Rattle.pv_site.specs.Recovered.{Remains}
use Rattle.pv_site.specs.Resumes.{CanResume, HasResumed, Resumes}
use Rattle.pv_site.specs.declared.error.OpenError.{OpenError}

pub go_on-requires : goal.go_on-requires
go_on-requires g c =
    let read = c.in-Ok.ensures.loaded in
    subst (CanResume g.L.Log.model c.load.new.log) (sym read.1.2)
    (can-resume g.L.Log.model c.args.log c.load.new.log c.load.new.log c.args.site.0 c.args.catalog.now c.requires.intact c.requires.up read.0 read.1.0
    c.in-Ok.ensures.intact c.requires.limit c.requires.site)

pub returns-in-Ok-go_on-clause-opened : goal.returns-in-Ok-go_on-clause-opened
returns-in-Ok-go_on-clause-opened g c =
    let read = c.in-Ok.ensures.loaded in
    opened g.L.Log.model c.args.log c.load.new.log c.load.new.log c.args.site.0 c.args.catalog.now c.requires.intact c.requires.up read.0 read.1.0 read.2
    c.in-Ok.loaded.first read.1.1 c.in-Ok-go_on.site
    (subst (λ (left : Remains). HasResumed g.L.Log.model c.load.new.log left c.in-Ok.loaded.first c.in-Ok-go_on.site) read.1.2 c.in-Ok-go_on.ensures.resumed)

pub returns-in-Err-go_on-clause-opened : goal.returns-in-Err-go_on-clause-opened
returns-in-Err-go_on-clause-opened g c =
    let read = c.in-Ok.ensures.loaded in
    subst (λ (e : OpenError g.row.L.Denot). Opens g.L.Log.model c.args.log c.args.site.0 c.args.catalog.now (Err e)) (sym c.unopened.ensures)
    (unopened-as g.L.Log.model c.args.log c.load.new.log c.load.new.log c.args.site.0 c.args.catalog.now c.requires.intact c.requires.up read.0 read.1.0 read.2
    c.in-Ok.loaded.first c.in-Err-go_on.error
    (subst (λ (left : Remains). Resumes g.L.Log.model c.load.new.log left c.in-Ok.loaded.first (Err c.in-Err-go_on.error)) read.1.2 c.in-Err-go_on.ensures.resumed))
