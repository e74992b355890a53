-- The first one that is astray is not before those that are left.
use Rattle.std.proofs.Common.{sym, ◌∙◌}
use Rattle.pv_audit.specs.Reports.{is_stray}
use Rattle.pv_audit.proofs.FoundLemmas.{found-behind}
use Rattle.pv_audit.proofs.outcomes.Outcomes.first_stray.Goals as goal

pub loop-txn-preserved : goal.loop-txn-preserved
loop-txn-preserved c = λ told sorted.
    c.loop-txn.invariant told sorted
    ∙ found-behind (is_stray told) c.args.txns.now c.loop-txn.txn-index _ c.loop-txn-test.true (sym (c.is_stray.ensures told sorted) ∙ c.if-is_stray.false)
