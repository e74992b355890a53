-- The lemma, as the law of an empty function.
use Rattle.pv_law_step.proofs.WantRanges.{part-in-range}
use Rattle.pv_law_step.proofs.ranges.plans_are_in_range.Goals as goal

pub returns : goal.returns
returns c = λ catalog program site small homes can here. part-in-range catalog program small can site here homes
