-- A site that is there works on a transaction where its cell does.
use Rattle.std.proofs.Common.{sym, ap}
use Rattle.std.specs.Prelude.{is_some}
use Rattle.pv_protocol.specs.Committed.{entry_in}
use Rattle.pv_protocol.specs.State.{Site}
use Rattle.pv_protocol.specs.World.{site_at}
use Rattle.pv_world.proofs.SiteLemmas.{cell-stands, no-cell}
use Rattle.pv_world.proofs.world.World.is_worked_on.Goals as goal

pub returns-in-Some : goal.returns-in-Some
returns-in-Some c = λ is stands.
    let n = c.args.txn.site.0 in
    c.works.ensures c.args.self.now.catalog n (site_at is n) (cell-stands c.args.self.now is stands n c.in-Some.home.now (sym c.in-Some.ensures))

pub returns-in-None : goal.returns-in-None
returns-in-None c = λ is stands.
    sym (ap (λ (site : Site). is_some (entry_in site.running c.args.txn)) (no-cell c.args.self.now is stands c.args.txn.site.0 (sym c.in-None.ensures)))
