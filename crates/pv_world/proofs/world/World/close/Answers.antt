-- The cells are those of the world's sites, of which there are few.
use Rattle.std.proofs.Common.{arith}
use Rattle.pv_world.proofs.StandLemmas.{cells-count}
use Rattle.pv_world.proofs.world.World.close.Goals as goal

pub fill-requires-clause-stand : goal.fill-requires-clause-stand
fill-requires-clause-stand c = (c.args.self.catalog, c.requires.0.sites, c.requires.1.stands.sites)

pub fill-requires-clause-few : goal.fill-requires-clause-few
fill-requires-clause-few c = omega (arith, cells-count c.args.self c.requires.0 c.requires.1.stands, c.requires.1.range.sites)

pub returns : goal.returns
returns c = λ is stands. c.fill.ensures c.args.self.catalog is.sites stands.stands.sites
