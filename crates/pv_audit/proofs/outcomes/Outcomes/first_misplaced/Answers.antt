-- The first one that is misplaced is not before those that are left.
use Rattle.std.proofs.Common.{sym, ◌∙◌}
use Rattle.pv_audit.specs.Reports.{is_misplaced}
use Rattle.pv_audit.proofs.FoundLemmas.{found-behind}
use Rattle.pv_audit.proofs.outcomes.Outcomes.first_misplaced.Goals as goal

pub loop-txn-preserved : goal.loop-txn-preserved
loop-txn-preserved c = λ told sorted first.
    c.loop-txn.invariant told sorted first
    ∙ found-behind (is_misplaced told) c.args.txns.now c.loop-txn.txn-index _ c.loop-txn-test.true (sym (c.is_misplaced.ensures told sorted first) ∙ c.if-is_misplaced.false)
