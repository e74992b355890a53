use Rattle.std.proofs.Common.{◌∙◌, Option, ap, subst}
use Rattle.pv_protocol.specs.State.{Running}
use Rattle.pv_site.specs.Asked.{grant_held}
use Rattle.pv_world.proofs.cell.Cell.holds.Goals as goal
use Rattle.pv_world.specs.Stands.{IsUp, StandsForSite}
use Rattle.pv_world.specs.declared.cell.Cell.{Cell}

pub returns-in-Up : goal.returns-in-Up
returns-in-Up c = λ catalog n is stands.
    let up : IsUp catalog n c.in-Up.up is = subst (λ (cell : Cell). StandsForSite catalog n cell is) c.in-Up.is stands in
    c.holds.ensures ∙ ap (λ (running : Option Running). grant_held running c.args.txn) up.running
