use Rattle.pv_audit.proofs.OneTraceLemmas.{one-trace}
use Rattle.pv_audit.proofs.laws.one_trace.Goals as goal

pub returns : goal.returns
returns c = one-trace
