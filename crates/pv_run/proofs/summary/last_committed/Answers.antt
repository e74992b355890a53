-- What one more line says comes last.
use Rattle.pv_run.specs.Summary.{committed_count}
use Rattle.pv_run.proofs.SummaryLemmas.{number-step}
use Rattle.pv_run.proofs.summary.last_committed.Goals as goal

pub loop-line-preserved : goal.loop-line-preserved
loop-line-preserved c =
    number-step committed_count c.args.lines.now c.loop-line.line-index c.line-item.result c.committed_count.result c.loop-line.committed c.unwrap_or-committed.result c.loop-line-test.true
    c.line-item.is c.committed_count.ensures c.loop-line.invariant c.unwrap_or-committed.ensures
