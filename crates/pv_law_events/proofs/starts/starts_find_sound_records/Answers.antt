use Rattle.pv_law_events.proofs.ReplayLemmas.{all-replayable}
use Rattle.pv_law_events.proofs.starts.starts_find_sound_records.Goals as goal
use Rattle.pv_protocol.specs.Run.{run, worlds_of}
use Rattle.pv_protocol.specs.World.{opening}

pub returns-clause-run : goal.returns-clause-run
returns-clause-run c setup events fine well =
    all-replayable setup fine (worlds_of (opening setup) (run setup (opening setup) events)) (c.runs_stay_in_range.ensures setup events fine well)

pub returns-clause-faults : goal.returns-clause-faults
returns-clause-faults c setup transitions fine goes =
    all-replayable setup fine (worlds_of (opening setup) transitions) (c.any_runs_stay_in_range.ensures setup transitions fine goes)
