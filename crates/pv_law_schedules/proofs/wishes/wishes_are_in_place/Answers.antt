-- The lemmas on what clients want.
use Rattle.pv_law_schedules.proofs.WishLemmas.{wishes-home, wishes-numbered}
use Rattle.pv_law_schedules.proofs.wishes.wishes_are_in_place.Goals as goal

pub returns-clause-numbers : goal.returns-clause-numbers
returns-clause-numbers c = λ text script is. wishes-numbered text script is

pub returns-clause-looks : goal.returns-clause-looks
returns-clause-looks c = λ text script is. wishes-home text script is
