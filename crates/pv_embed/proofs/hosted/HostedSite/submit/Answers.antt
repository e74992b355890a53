use Rattle.std.proofs.Common.{◌≡◌, ap, sym, subst, ◌∙◌}
use Rattle.pv_base.specs.Catalog.{Declared}
use Rattle.pv_law_programs.proofs.DeclaredItems.{declared-items}
use Rattle.pv_model.specs.Plan.{plan_of}
use Rattle.pv_protocol.specs.WellFormed.{CanRun}
use Rattle.pv_embed.proofs.RequestLemmas.{can_run}
use Rattle.pv_embed.proofs.hosted.HostedSite.submit.Goals as goal
use Rattle.pv_embed.specs.Hosted.{HostedState}

pub check-requires : goal.check-requires
check-requires c = declared-items c.self.inside.catalog c.args.text.now c.in-Ok.program c.in-Ok.ensures.answer.given

pub step-requires : goal.step-requires
step-requires c =
    let program = c.in-Ok.program in
    let plan = c.in-Ok-check.plan in
    let items = c.some_items.ensures program in
    let accepted = (c.in-Ok-check.ensures.refused items.0 items.1).accepted in
    let same : c.self.inside.catalog ≡ c.args.self.now.site.catalog = sym c.self.invariant.catalog ∙ ap (λ (hosted : HostedState). hosted.site.catalog) c.self.view_is in
    subst (λ (catalog : Declared). CanRun catalog program × (plan.parts.items ≡ plan_of program catalog.items)) same (
      can_run c.self.inside.catalog c.args.text.now program c.args.query items.0 c.in-Ok.ensures.answer.given items.1 accepted,
      c.one_plan.ensures program c.self.inside.catalog.items plan.parts.items c.in-Ok-check.ensures.plan,
    )
