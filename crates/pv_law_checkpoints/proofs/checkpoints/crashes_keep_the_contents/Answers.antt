-- The lemmas, as the law of an empty function.
use Rattle.pv_law_checkpoints.proofs.CheckpointLemmas.{crash_in, left_in_all, same_left}
use Rattle.pv_law_checkpoints.proofs.checkpoints.crashes_keep_the_contents.Goals as goal

pub returns-clause-either : goal.returns-clause-either
returns-clause-either c = λ part at place packed later given bytes left next torn. crash_in part at place packed later given bytes left next torn

pub returns-clause-in_all : goal.returns-clause-in_all
returns-clause-in_all c = λ part was now before given left is leaves. left_in_all part was now before given left is leaves

pub returns-clause-same : goal.returns-clause-same
returns-clause-same c = λ part was contents left is. same_left part was contents left is
