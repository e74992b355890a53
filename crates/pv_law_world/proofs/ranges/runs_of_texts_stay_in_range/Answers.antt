use Rattle.pv_law_world.specs.Ranges.{with_limits}
use Rattle.pv_law_world.proofs.ranges.runs_of_texts_stay_in_range.Goals as goal

pub returns-clause-run : goal.returns-clause-run
returns-clause-run c text schedule read_names held_names is apart held =
    c.runs_stay_in_range.ensures (with_limits schedule.catalog read_names held_names) schedule.events
    (c.schedules_are_in_range.ensures text schedule read_names held_names is apart held) (c.schedules_are_well_formed.ensures text schedule is)

pub returns-clause-faults : goal.returns-clause-faults
returns-clause-faults c text schedule read_names held_names transitions is apart held run =
    c.any_runs_stay_in_range.ensures (with_limits schedule.catalog read_names held_names) transitions
    (c.schedules_are_in_range.ensures text schedule read_names held_names is apart held) run
