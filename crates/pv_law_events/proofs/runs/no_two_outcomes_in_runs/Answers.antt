use Rattle.pv_law_events.proofs.RunActs.{run-reached, any-run-reached, outcomes-agree}
use Rattle.pv_law_events.proofs.runs.no_two_outcomes_in_runs.Goals as goal
use Rattle.pv_protocol.specs.Run.{run, worlds_of}
use Rattle.pv_protocol.specs.World.{opening}

pub returns-clause-run : goal.returns-clause-run
returns-clause-run c setup events well = outcomes-agree setup (worlds_of (opening setup) (run setup (opening setup) events)) (run-reached setup events well)

pub returns-clause-faults : goal.returns-clause-faults
returns-clause-faults c setup transitions run = outcomes-agree setup (worlds_of (opening setup) transitions) (any-run-reached setup transitions run)
