use Rattle.std.proofs.Common.{◌∙◌, Option, ap, subst}
use Rattle.std.specs.Prelude.{is_some}
use Rattle.pv_protocol.specs.Committed.{entry_in}
use Rattle.pv_protocol.specs.State.{Running}
use Rattle.pv_world.proofs.cell.Cell.works.Goals as goal
use Rattle.pv_world.specs.Stands.{IsUp, StandsForSite}
use Rattle.pv_world.specs.declared.cell.Cell.{Cell}

pub returns-in-Up : goal.returns-in-Up
returns-in-Up c = λ catalog n is stands.
    let up : IsUp catalog n c.in-Up.up is = subst (λ (cell : Cell). StandsForSite catalog n cell is) c.in-Up.is stands in
    c.works.ensures ∙ ap (λ (running : Option Running). is_some (entry_in running c.args.txn)) up.running
