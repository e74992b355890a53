use Rattle.pv_law_world.proofs.EpochLemmas.{IsRecorded, epochs-kept}
use Rattle.pv_law_world.proofs.SiteLemmas.{up-run, up-any-run}
use Rattle.pv_law_world.proofs.sites.epochs_are_recorded.Goals as goal

pub returns-clause-run : goal.returns-clause-run
returns-clause-run c setup events = up-run setup IsRecorded (epochs-kept setup) events

pub returns-clause-faults : goal.returns-clause-faults
returns-clause-faults c setup transitions run = up-any-run setup IsRecorded (epochs-kept setup) transitions run
