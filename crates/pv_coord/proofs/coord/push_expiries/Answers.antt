use Rattle.std.proofs.Common.{◌∙◌}
use Rattle.pv_coord.proofs.Expiries.{next-expires}
use Rattle.pv_coord.proofs.coord.push_expiries.Goals as goal

pub loop-entry-preserved : goal.loop-entry-preserved
loop-entry-preserved c =
    c.loop-entry.invariant
    ∙ next-expires c.args.entries.now c.loop-entry.entry-index c.entry-item.result c.loop-entry.expiries.items c.push_expiry.new.expiries.items c.loop-entry-test.true c.entry-item.is
    (λ rest. c.in_ok-push_expiry.ensures rest)
