-- The store says which items they are, while the site is up.
use Rattle.std.proofs.Common.{◌∙◌, ap}
use Rattle.pv_site.proofs.SiteLemmas.{touched-down, touched-up}
use Rattle.pv_site.proofs.site.Site.touched.Goals as goal
use Rattle.pv_site.specs.Asked.{is_touched}
use Rattle.pv_site.specs.SiteState.{SiteState}

pub returns-then-self-clause-items : goal.returns-then-self-clause-items
returns-then-self-clause-items g c = λ item.
    touched-down c.self.inside c.args.txn item c.if-self.true ∙ ap (λ (site : SiteState g.row.L.Denot). is_touched site c.args.txn item) c.self.view_is

pub returns-clause-items : goal.returns-clause-items
returns-clause-items g c = λ item.
    c.touched.ensures.items item
    ∙ touched-up c.self.inside c.args.txn item c.self.invariant c.if-self.false
    ∙ ap (λ (site : SiteState g.row.L.Denot). is_touched site c.args.txn item) c.self.view_is
