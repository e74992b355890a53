use Rattle.std.proofs.Common.{ap, sym, subst, ◌∙◌}
use Rattle.pv_model.specs.Plan.{plan_of}
use Rattle.pv_protocol.specs.Attempt.{given}
use Rattle.pv_protocol.specs.State.{submit}
use Rattle.pv_protocol.specs.WellFormed.{CanRun}
use Rattle.pv_protocol.specs.World.{site_at}
use Rattle.pv_site.specs.SiteState.{setup_of}
use Rattle.pv_world.proofs.DeliverLemmas.{orderly}
use Rattle.pv_world.proofs.EventLemmas.{reached-submitted}
use Rattle.pv_world.specs.Steps.{Comes}
use Rattle.pv_world.proofs.world.World.submit.Goals as goal

-- The plan of the request is the one that its program has.
pub give-requires : goal.give-requires
give-requires c =
    let catalog = c.args.self.now.catalog in
    let is = c.requires.stands.0 in
    let stands = c.requires.stands.1 in
    let laws = c.reached_worlds_are_lawful.ensures (setup_of catalog) in
    record {
      is = is;
      stands = stands.stands;
      site = c.requires.site;
      fits = (c.requires.runs, c.one_plan.ensures _ _ _ c.requires.plan);
      replayable = (laws is stands.range stands.reached).replayable;
      after = (laws _ stands.range (reached-submitted (setup_of catalog) is stands.reached c.args.site.0 _ c.requires.site c.requires.runs)).replayable;
    }

pub returns : goal.returns
returns c is stands =
    let world = c.args.self.now in
    let lawful = c.reached_worlds_are_lawful.ensures _ is stands.range stands.reached in
    c.give.ensures is stands.stands (orderly world is stands lawful)
