-- Acts lead to every world of a run.
use Rattle.pv_law_answers.proofs.RunLemmas.{reports-agree}
use Rattle.pv_law_answers.proofs.runs.reports_agree.Goals as goal
use Rattle.pv_law_events.proofs.RunActs.{any-run-reached, run-reached}
use Rattle.pv_protocol.specs.Run.{run}
use Rattle.pv_protocol.specs.World.{opening}

pub returns-clause-run : goal.returns-clause-run
returns-clause-run c = λ setup events well. reports-agree setup (run setup (opening setup) events) (run-reached setup events well)

pub returns-clause-faults : goal.returns-clause-faults
returns-clause-faults c = λ setup transitions faults. reports-agree setup transitions (any-run-reached setup transitions faults)
