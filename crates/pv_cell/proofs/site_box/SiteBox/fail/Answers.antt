use Rattle.std.proofs.Common.{rules, ℕ, ◌+◌, length, refl, sym, subst}
use Rattle.pv_base.specs.declared.txn.SiteId.{SiteId}
use Rattle.pv_cell.proofs.site_box.SiteBox.fail.Goals as goal
use Rattle.pv_cell.specs.Follows.{FollowsNo}
use Rattle.pv_cell.specs.declared.site_box.SiteBox.{SiteBox}
use Rattle.pv_cell.specs.declared.visit.Visit.{Visit}
use Rattle.pv_cell.specs.declared.visit.Visit.TheVariants.{Took}
use Rattle.pv_mail.specs.Telling.{TellsDownTo}
use Rattle.pv_site.specs.declared.error.StepError.{StepError}
use Rattle.pv_site.specs.declared.error.StepError.TheVariants.{Down}

pub returns-in-Down : goal.returns-in-Down
returns-in-Down g c =
    let old = c.args.self.now in
    let new = c.enter-in-Down.new.self in
    let outs = old.ends.clients_out.items in
    let telling = c.telling-telling.result in
    let hears : TellsDownTo telling.site.0 telling.seen c.args.asker outs c.down.new.outs.items = search rules in
    let seen : TellsDownTo telling.site.0 (length old.history.items + 1) c.args.asker outs c.down.new.outs.items =
    subst (λ (n : ℕ). TellsDownTo telling.site.0 n c.args.asker outs c.down.new.outs.items) c.telling-telling.ensures.1 hears in
    let tells : TellsDownTo old.me.0 (length old.history.items + 1) c.args.asker outs c.down.new.outs.items =
    subst (λ (me : SiteId). TellsDownTo me.0 (length old.history.items + 1) c.args.asker outs c.down.new.outs.items) c.telling-telling.ensures.0 seen in
    subst (λ (error : StepError). FollowsNo old new c.args.stamp c.args.taken c.args.asker error c.enter-in-Down.result) (sym c.in-Down.is)
    (subst (λ (visit : Visit). FollowsNo old new c.args.stamp c.args.taken c.args.asker Down visit) (sym c.enter-in-Down.ensures.took)
    (subst (λ (end : SiteBox g.row.L.Denot). FollowsNo old end c.args.stamp c.args.taken c.args.asker Down Took) (sym c.enter-in-Down.ensures.changed)
    (refl, c.enter-in-Down.ensures.entry, tells)))
