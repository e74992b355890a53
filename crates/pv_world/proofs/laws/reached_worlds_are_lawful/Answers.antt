use Rattle.pv_world.proofs.LawfulLemmas.{lawful}
use Rattle.pv_world.proofs.laws.reached_worlds_are_lawful.Goals as goal

pub returns : goal.returns
returns c setup world fine reached =
    lawful setup world fine reached
    (c.runs_stay_in_range.ensures setup reached.events fine reached.well)
    (c.starts_find_sound_records.ensures.run setup reached.events fine reached.well)
    (c.epochs_are_recorded.ensures.run setup reached.events)
    (c.memories_are_in_order.ensures.run setup reached.events)
    (c.no_two_outcomes_in_runs.ensures.run setup reached.events reached.well)
    (c.runs_are_reached.ensures.run setup reached.events reached.well)
