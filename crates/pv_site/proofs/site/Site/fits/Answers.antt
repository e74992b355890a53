use Rattle.std.proofs.Common.{◌≡◌, ◌∙◌, true, ap, subst, sym}
use Rattle.pv_base.specs.Catalog.{Declared}
use Rattle.pv_model.specs.Plan.{plan_of}
use Rattle.pv_protocol.specs.WellFormed.{CanRun}
use Rattle.pv_site.proofs.FitLemmas.{planned-runs, runs-planned}
use Rattle.pv_site.proofs.site.Site.fits.Goals as goal
use Rattle.pv_site.specs.SiteState.{SiteState}

pub returns-then-has_small_numbers : goal.returns-then-has_small_numbers
returns-then-has_small_numbers g c =
    let catalog : Declared = c.self.inside.parts.catalog in
    let program = c.args.program.now in
    let parts = c.args.plan.now.parts.items in
    subst (λ (declared : Declared). (c.fits.result ≡ true → CanRun declared program × (parts ≡ plan_of program declared.items))
    × (CanRun declared program × (parts ≡ plan_of program declared.items) → c.fits.result ≡ true))
    (ap (λ (site : SiteState g.row.L.Denot). site.catalog) c.self.view_is) (
      λ is. planned-runs catalog program parts (c.fits.ensures.0 is) (sym c.has_small_numbers.ensures ∙ c.if-has_small_numbers.true),
      λ runs. c.fits.ensures.1 (runs-planned catalog program parts runs),
    )
