-- The reports of a run's trace are right, and of right reports nothing is found but a limit.
use Rattle.pv_law_audits.proofs.PassLemmas.{right-passes}
use Rattle.pv_law_requests.proofs.TraceLemmas.{run-right}
use Rattle.pv_law_requests.proofs.run_traces_pass.Goals as goal
use Rattle.pv_law_requests.specs.RunTraces.{run_trace}

pub returns : goal.returns
returns c = λ setup events verdict well is. right-passes (run_trace setup events) verdict (run-right setup events well) is
