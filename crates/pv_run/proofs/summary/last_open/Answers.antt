-- What one more line says comes last.
use Rattle.pv_run.specs.Summary.{open_count}
use Rattle.pv_run.proofs.SummaryLemmas.{number-step}
use Rattle.pv_run.proofs.summary.last_open.Goals as goal

pub loop-line-preserved : goal.loop-line-preserved
loop-line-preserved c =
    number-step open_count c.args.lines.now c.loop-line.line-index c.line-item.result c.open_count.result c.loop-line.open c.unwrap_or-open.result c.loop-line-test.true
    c.line-item.is c.open_count.ensures c.loop-line.invariant c.unwrap_or-open.ensures
