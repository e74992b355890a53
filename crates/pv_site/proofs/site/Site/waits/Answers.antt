use Rattle.std.proofs.Common.{◌≡◌, subst, false}
use Rattle.std.specs.Prelude.{◌↔◌}
use Rattle.pv_site.proofs.SiteLemmas.{busy-where, idle-where}
use Rattle.pv_site.proofs.site.Site.waits.Goals as goal
use Rattle.pv_site.specs.Asked.{IsIdle}
use Rattle.pv_site.specs.SiteState.{SiteState}

pub returns-then-any_stands : goal.returns-then-any_stands
returns-then-any_stands g c =
    subst (λ (site : SiteState g.row.L.Denot). (c.any_stands.result ≡ false) ↔ IsIdle site) c.self.view_is
    (busy-where c.self.inside c.self.invariant c.any_stands.result c.if-any_stands.true c.any_stands.ensures)

pub returns-else-any_stands : goal.returns-else-any_stands
returns-else-any_stands g c =
    subst (λ (site : SiteState g.row.L.Denot). (c.any.result ≡ false) ↔ IsIdle site) c.self.view_is
    (idle-where c.self.inside c.self.invariant c.any_stands.result c.any.result c.if-any_stands.false c.any_stands.ensures c.any.ensures)
