use Rattle.pv_law_quorum.proofs.BeginningLemmas.{undisturbed-settled}
use Rattle.pv_law_quorum.proofs.SinceLemmas.{lines-since}
use Rattle.pv_law_quorum.proofs.an_undisturbed_proposal_is_settled.Goals as goal

pub returns-clause-settled : goal.returns-clause-settled
returns-clause-settled c setup fit events n txn v members numbers is = undisturbed-settled setup fit events n txn v members numbers is

pub returns-clause-since : goal.returns-clause-since
returns-clause-since c setup world events = lines-since setup world events
