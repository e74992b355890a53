use Rattle.std.proofs.Common.{subst}
use Rattle.pv_world.proofs.CellLemmas.{reads-up}
use Rattle.pv_world.proofs.cell.Cell.read.Goals as goal
use Rattle.pv_world.specs.Readings.{OwnsItem}
use Rattle.pv_world.specs.Stands.{StandsForSite}
use Rattle.pv_world.specs.declared.cell.Cell.{Cell}

pub read-requires : goal.read-requires
read-requires c = subst (λ (cell : Cell). OwnsItem cell c.args.item.0) c.in-Up.is c.requires

pub returns-in-Up : goal.returns-in-Up
returns-in-Up c = λ catalog n is stands.
    reads-up catalog n c.in-Up.up is (subst (λ (cell : Cell). StandsForSite catalog n cell is) c.in-Up.is stands) c.args.item.0 c.read.result c.read.ensures
