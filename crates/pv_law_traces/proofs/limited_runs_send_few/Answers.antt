-- The lemma on messages within the limit.
use Rattle.pv_law_traces.proofs.SentLimits.{run-sends}
use Rattle.pv_law_traces.proofs.limited_runs_send_few.Goals as goal

pub returns : goal.returns
returns c = run-sends
