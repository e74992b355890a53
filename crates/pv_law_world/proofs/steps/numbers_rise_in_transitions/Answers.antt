use Rattle.pv_law_world.proofs.NumberLemmas.{transition-later}
use Rattle.pv_law_world.proofs.steps.numbers_rise_in_transitions.Goals as goal

pub returns-clause-up : goal.returns-clause-up
returns-clause-up c setup world event n before after was is = (transition-later setup world event n).up before after was is

pub returns-clause-start : goal.returns-clause-start
returns-clause-start c setup world event n after was is = (transition-later setup world event n).start after was is
