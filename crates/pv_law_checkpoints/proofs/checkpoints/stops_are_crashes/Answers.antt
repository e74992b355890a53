-- The lemmas, as the law of an empty function.
use Rattle.pv_law_checkpoints.proofs.CheckpointLemmas.{left_is_allowed, part_of_all, shut-closed}
use Rattle.pv_law_checkpoints.proofs.checkpoints.stops_are_crashes.Goals as goal

pub returns-clause-left : goal.returns-clause-left
returns-clause-left c = λ part mode was. left_is_allowed part mode was

pub returns-clause-in_all : goal.returns-clause-in_all
returns-clause-in_all c = λ part was now left is may. part_of_all part was now left is may

pub returns-clause-shut : goal.returns-clause-shut
returns-clause-shut c = λ was closed. shut-closed was closed
