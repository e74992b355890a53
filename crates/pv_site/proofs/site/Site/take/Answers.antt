use Rattle.std.proofs.Common.{sym, subst}
use Rattle.std.specs.Prelude.{All}
use Rattle.pv_site.proofs.SiteLemmas.{ready-after}
use Rattle.pv_site.proofs.site.Site.take.Goals as goal
use Rattle.pv_site.specs.Inputs.{IsSpelledFrom}
use Rattle.pv_site.specs.SiteState.{SiteState}
use Rattle.pv_site.specs.Steps.{IsReady}

pub returns-in-Ok-clause-ready : goal.returns-in-Ok-clause-ready
returns-in-Ok-clause-ready g c =
    let made = c.in-Ok.ensures.step in
    ready-after g.L.Log.model c.self.inside c.take-made.new.log c.take-made.new.parts _ c.if-self.false made.0 made.2 c.take-made.ensures.intact
    (subst (IsReady g.L.Log.model) (sym c.self.view_is) c.requires.ready)

pub returns-in-Ok-clause-spelled : goal.returns-in-Ok-clause-spelled
returns-in-Ok-clause-spelled g c =
    subst (λ (site : SiteState g.row.L.Denot). All (IsSpelledFrom site.me) c.in-Ok.step.sends.items) c.self.view_is c.in-Ok.ensures.spelled
