use Rattle.pv_law_world.proofs.ScheduleLemmas.{schedule-well}
use Rattle.pv_law_world.proofs.runs.schedules_are_well_formed.Goals as goal

pub returns : goal.returns
returns c text schedule is = schedule-well text schedule is
