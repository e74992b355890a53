use Rattle.pv_law_world.proofs.SetupLemmas.{schedule-in-range}
use Rattle.pv_law_world.proofs.ranges.schedules_are_in_range.Goals as goal

pub returns : goal.returns
returns c text schedule read_names held_names is apart held = schedule-in-range text schedule read_names held_names is apart held
