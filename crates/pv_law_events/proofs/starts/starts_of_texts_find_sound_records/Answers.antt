use Rattle.pv_law_events.proofs.ReplayLemmas.{all-replayable}
use Rattle.pv_law_events.proofs.starts.starts_of_texts_find_sound_records.Goals as goal
use Rattle.pv_law_world.specs.Ranges.{with_limits}
use Rattle.pv_protocol.specs.Run.{run, worlds_of}
use Rattle.pv_protocol.specs.State.{Setup}
use Rattle.pv_protocol.specs.World.{opening}

pub returns-clause-run : goal.returns-clause-run
returns-clause-run c text schedule read_names held_names is apart held =
    let setup : Setup = with_limits schedule.catalog read_names held_names in
    all-replayable setup (c.schedules_are_in_range.ensures text schedule read_names held_names is apart held) (worlds_of (opening setup) (run setup (opening setup) schedule.events))
    (c.runs_of_texts_stay_in_range.ensures.run text schedule read_names held_names is apart held)

pub returns-clause-faults : goal.returns-clause-faults
returns-clause-faults c text schedule read_names held_names transitions is apart held goes =
    let setup : Setup = with_limits schedule.catalog read_names held_names in
    all-replayable setup (c.schedules_are_in_range.ensures text schedule read_names held_names is apart held) (worlds_of (opening setup) transitions)
    (c.runs_of_texts_stay_in_range.ensures.faults text schedule read_names held_names transitions is apart held goes)
