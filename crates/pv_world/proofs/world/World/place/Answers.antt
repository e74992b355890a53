use Rattle.std.proofs.Common.{arith, ◌<◌, refl, ap, sym, ◌∙◌}
use Rattle.pv_protocol.specs.World.{site_at}
use Rattle.pv_world.proofs.ChangeLemmas.{own-stands}
use Rattle.pv_world.proofs.PlaceSteps.{placed-by}
use Rattle.pv_world.proofs.StandLemmas.{cells-count}
use Rattle.pv_world.specs.Places.{votes_from}
use Rattle.pv_world.proofs.world.World.place.Goals as goal

pub returns-in_ok-push : goal.returns-in_ok-push
returns-in_ok-push c is at_point stands reaches right =
    let world = c.args.self.now in
    let within : c.args.site.0 < world.catalog.sites = omega (arith, cells-count world is stands, c.requires) in
    let own = own-stands world is stands c.args.site.0 within c.index.result.now c.index.ensures in
    let running = (site_at is c.args.site.0).running in
    placed-by world _ is c.args.site.0 c.in-Some.txn c.in_ok-placed.placed at_point stands (sym c.in-Some.is ∙ reaches) right
    (c.in_ok-placed.ensures world.catalog c.args.site.0 (site_at is c.args.site.0) own
    ∙ ap (λ sites. (c.in-Some.txn, votes_from running c.in-Some.txn 0 sites)) c.sites.ensures.count)
    refl refl refl c.in_ok-push.ensures.items
