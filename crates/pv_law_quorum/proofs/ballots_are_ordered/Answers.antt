use Rattle.pv_law_quorum.proofs.OrderLemmas.{below-number, number-below, neither-below}
use Rattle.pv_law_quorum.proofs.ballots_are_ordered.Goals as goal

pub returns-clause-by_number : goal.returns-clause-by_number
returns-clause-by_number c ballot other first second = (below-number ballot other first second, number-below ballot other first second)

pub returns-clause-total : goal.returns-clause-total
returns-clause-total c ballot other first second one two = neither-below ballot other first second one two
