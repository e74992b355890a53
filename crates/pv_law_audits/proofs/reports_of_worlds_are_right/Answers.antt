-- The lemma on what a report prints in a world.
use Rattle.pv_law_audits.proofs.WorldLemmas.{world-right}
use Rattle.pv_law_audits.proofs.reports_of_worlds_are_right.Goals as goal

pub returns : goal.returns
returns c = world-right
