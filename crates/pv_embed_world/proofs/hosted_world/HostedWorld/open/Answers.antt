-- Nothing has happened in a world that is opened.
use Rattle.std.proofs.Common.{subst}
use Rattle.pv_base.specs.Catalog.{Declared}
use Rattle.pv_protocol.specs.World.{opening}
use Rattle.pv_site.specs.SiteState.{setup_of}
use Rattle.pv_world.specs.Stands.{StandsFor}
use Rattle.pv_embed_world.proofs.StepLemmas.{opened}
use Rattle.pv_embed_world.proofs.hosted_world.HostedWorld.open.Goals as goal

pub returns : goal.returns
returns c =
    let declared = c.in_ok-declared.declared in
    let world = c.in_ok-world.world in
    opened c.args.catalog.now declared.text declared.catalog world c.new-2.result c.in_ok-declared.ensures.0 c.in_ok-declared.ensures.2 c.in_ok-declared.ensures.1
    (subst (λ (d : Declared). StandsFor world (opening (setup_of d))) c.catalog.ensures c.in_ok-world.ensures.stands) c.new-2.ensures
