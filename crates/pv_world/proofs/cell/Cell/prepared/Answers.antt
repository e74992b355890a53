use Rattle.std.proofs.Common.{◌∙◌, List, ap, subst}
use Rattle.pv_format.specs.Record.{Record}
use Rattle.pv_protocol.specs.Records.{is_prepared}
use Rattle.pv_world.proofs.cell.Cell.prepared.Goals as goal
use Rattle.pv_world.specs.Stands.{IsUp, StandsForSite}
use Rattle.pv_world.specs.declared.cell.Cell.{Cell}

pub returns-in-Up : goal.returns-in-Up
returns-in-Up c = λ catalog n is stands.
    let up : IsUp catalog n c.in-Up.up is = subst (λ (cell : Cell). StandsForSite catalog n cell is) c.in-Up.is stands in
    c.prepared.ensures ∙ ap (λ (records : List Record). is_prepared records c.args.txn) up.records
