-- A transaction is committed where its site knows that it commits.
use Rattle.std.proofs.Common.{true, Some, sym, ap, ◌∙◌}
use Rattle.std.specs.Bool.{beq}
use Rattle.std.specs.List.{list_any}
use Rattle.std.specs.Option.{option_eq}
use Rattle.pv_protocol.specs.Committed.{says_yes}
use Rattle.pv_protocol.specs.State.{Site}
use Rattle.pv_protocol.specs.World.{site_at}
use Rattle.pv_world.proofs.SiteLemmas.{cell-stands, no-cell}
use Rattle.pv_world.proofs.OpenLemmas.{committed-known}
use Rattle.pv_world.proofs.world.World.is_committed.Goals as goal

pub returns-in-Some : goal.returns-in-Some
returns-in-Some c = λ is stands one.
    let n = c.args.txn.site.0 in
    let here = cell-stands c.args.self.now is stands n c.in-Some.home.now (sym c.in-Some.ensures) in
    c.eq.ensures
    ∙ ap (λ outcome. option_eq beq outcome (Some true)) (c.known.ensures c.args.self.now.catalog n (site_at is n) here)
    ∙ sym (committed-known is c.args.txn one)

pub returns-in-None : goal.returns-in-None
returns-in-None c = λ is stands one.
    sym (ap (λ (site : Site). list_any (says_yes c.args.txn) site.records) (no-cell c.args.self.now is stands c.args.txn.site.0 (sym c.in-None.ensures)))
