-- The examples compute.
use Rattle.std.proofs.Common.{refl}
use Rattle.pv_law_quorum.proofs.a_second_proposer_follows.Goals as goal

pub returns-clause-after_the_first : goal.returns-clause-after_the_first
returns-clause-after_the_first c = refl

pub returns-clause-beside_the_first : goal.returns-clause-beside_the_first
returns-clause-beside_the_first c = refl
