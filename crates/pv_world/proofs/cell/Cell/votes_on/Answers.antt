use Rattle.std.proofs.Common.{◌∙◌, Option, ap, subst}
use Rattle.pv_protocol.specs.State.{Running}
use Rattle.pv_site.specs.Asked.{grant_taken, voting_at}
use Rattle.pv_world.proofs.cell.Cell.votes_on.Goals as goal
use Rattle.pv_world.specs.Stands.{IsUp, StandsForSite}
use Rattle.pv_world.specs.declared.cell.Cell.{Cell}

pub returns-in-Up : goal.returns-in-Up
returns-in-Up c = λ catalog n is stands.
    let up : IsUp catalog n c.in-Up.up is = subst (λ (cell : Cell). StandsForSite catalog n cell is) c.in-Up.is stands in
    c.votes_on.ensures ∙ ap (λ (running : Option Running). grant_taken c.args.site.0 (voting_at running c.args.txn)) up.running
