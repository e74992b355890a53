use Rattle.std.proofs.Common.{◌≡◌, ◌∙◌, subst}
use Rattle.std.specs.Prelude.{is_some}
use Rattle.pv_protocol.specs.Committed.{entry_in}
use Rattle.pv_site.proofs.SiteLemmas.{works-in}
use Rattle.pv_site.proofs.site.Site.works.Goals as goal
use Rattle.pv_site.specs.SiteState.{SiteState}

pub returns : goal.returns
returns g c =
    subst (λ (site : SiteState g.row.L.Denot). c.works.result ≡ is_some (entry_in site.running c.args.txn)) c.self.view_is
    (c.works.ensures ∙ works-in c.self.inside.parts c.args.txn c.self.inside.down c.self.invariant.entries)
