use Rattle.pv_law_events.proofs.RunActs.{run-reached, any-run-reached}
use Rattle.pv_law_events.proofs.runs.runs_are_reached.Goals as goal

pub returns-clause-run : goal.returns-clause-run
returns-clause-run c setup events well = run-reached setup events well

pub returns-clause-faults : goal.returns-clause-faults
returns-clause-faults c setup transitions run = any-run-reached setup transitions run
