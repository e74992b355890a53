-- Acts lead to every world of a run.
use Rattle.pv_law_answers.proofs.RunLemmas.{fits-before}
use Rattle.pv_law_answers.proofs.runs.what_fits_fitted.Goals as goal
use Rattle.pv_law_events.proofs.RunActs.{any-run-reached, run-reached}
use Rattle.pv_protocol.specs.Run.{run, worlds_of}
use Rattle.pv_protocol.specs.World.{opening}

pub returns-clause-run : goal.returns-clause-run
returns-clause-run c = λ setup events well. fits-before setup (worlds_of (opening setup) (run setup (opening setup) events)) (run-reached setup events well)

pub returns-clause-faults : goal.returns-clause-faults
returns-clause-faults c = λ setup transitions faults. fits-before setup (worlds_of (opening setup) transitions) (any-run-reached setup transitions faults)
