-- The lemmas, as the law of an empty function.
use Rattle.pv_law_checkpoints.proofs.WorkedLemmas.{appended_is, packed_once_is, packed_twice_is, places, first_checkpoint, second_checkpoint}
use Rattle.pv_law_checkpoints.proofs.logs.three_contents_are_packed_twice.Goals as goal

pub returns-clause-appended : goal.returns-clause-appended
returns-clause-appended c = appended_is

pub returns-clause-places : goal.returns-clause-places
returns-clause-places c = places

pub returns-clause-first : goal.returns-clause-first
returns-clause-first c = first_checkpoint

pub returns-clause-first_log : goal.returns-clause-first_log
returns-clause-first_log c = packed_once_is

pub returns-clause-second : goal.returns-clause-second
returns-clause-second c = second_checkpoint

pub returns-clause-second_log : goal.returns-clause-second_log
returns-clause-second_log c = packed_twice_is
