use Rattle.pv_law_world.proofs.RangeLemmas.{transition-range}
use Rattle.pv_law_world.proofs.ranges.worlds_stay_in_range.Goals as goal

pub returns : goal.returns
returns c setup world event setup_fine fine good =
    transition-range c.sends_are_in_range.ensures c.steps_stay_sound.ensures c.starts_are_sound.ensures setup setup_fine world fine event good
