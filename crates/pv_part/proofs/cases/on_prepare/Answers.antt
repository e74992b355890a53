use Rattle.std.proofs.Common.{◌∙◌, sym, ap, subst}
use Rattle.std.specs.Prelude.{◌==◌}
use Rattle.pv_locks.specs.LockTable as table
use Rattle.pv_part.proofs.CaseLemmas.{prepare-step}
use Rattle.pv_part.proofs.cases.on_prepare.Goals as goal
use Rattle.pv_part.specs.Cases.{is_the_grant, prepare_case, IsPrepareStep}
use Rattle.pv_protocol.specs.Keyed.{of_txn}
use Rattle.pv_protocol.specs.State.{Grant}
use Rattle.pv_protocol.specs.Vote.{on_prepare}

pub returns-clause-case : goal.returns-clause-case
returns-clause-case c =
    c.prepare_case.ensures
    ∙ ap (λ b. prepare_case b c.args.prepared c.is_the_grant.result) c.is_site_of.ensures
    ∙ ap (prepare_case (c.args.from.0 == c.args.txn.site.0) c.args.prepared)
    (c.is_the_grant.ensures (table.grant_of c.args.locks.now c.args.txn) c.holds.ensures)

pub returns-clause-step : goal.returns-clause-step
returns-clause-step c here known writes tells same =
    let case = returns-clause-case c
    ∙ ap (λ l. prepare_case (c.args.from.0 == c.args.txn.site.0) c.args.prepared (is_the_grant c.args.grant (of_txn (λ (g : Grant). g.txn) c.args.txn l))) (sym same) in
    subst (λ case. IsPrepareStep here c.args.txn writes case (on_prepare here c.args.from.0 c.args.txn c.args.grant writes)) (sym case)
    (prepare-step here c.args.txn c.args.grant writes c.args.from.0 c.args.prepared known tells)
