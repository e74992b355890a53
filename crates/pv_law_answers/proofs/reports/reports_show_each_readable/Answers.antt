-- A report prints what sites show.
use Rattle.pv_law_answers.proofs.ReportLemmas.{any-reports-show, run-reports-show}
use Rattle.pv_law_answers.proofs.reports.reports_show_each_readable.Goals as goal
use Rattle.pv_law_events.proofs.RunActs.{any-run-reached, run-reached}
use Rattle.pv_law_world.proofs.TransitionLemmas.{run-transitions}
use Rattle.pv_protocol.specs.Run.{run}
use Rattle.pv_protocol.specs.World.{opening}

pub returns-clause-run : goal.returns-clause-run
returns-clause-run c = λ setup events well.
    run-reports-show setup (run setup (opening setup) events) (run-reached setup events well) (run-transitions setup (opening setup) events)

pub returns-clause-faults : goal.returns-clause-faults
returns-clause-faults c = λ setup transitions faults. any-reports-show setup transitions (any-run-reached setup transitions faults) faults
