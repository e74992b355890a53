use Rattle.std.proofs.Common.{◌≡◌, ◌∙◌, subst}
use Rattle.pv_site.proofs.SiteLemmas.{votes-in}
use Rattle.pv_site.proofs.site.Site.votes_on.Goals as goal
use Rattle.pv_site.specs.Asked.{grant_taken, voting_at}
use Rattle.pv_site.specs.SiteState.{SiteState}

pub returns : goal.returns
returns g c =
    subst (λ (site : SiteState g.row.L.Denot). c.votes_on.result ≡ grant_taken c.args.site.0 (voting_at site.running c.args.txn)) c.self.view_is
    (c.votes_on.ensures ∙ votes-in c.self.inside.parts c.args.txn c.args.site.0 c.self.inside.down c.self.invariant.entries)
