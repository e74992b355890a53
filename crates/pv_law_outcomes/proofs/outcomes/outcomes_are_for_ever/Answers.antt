use Rattle.pv_law_outcomes.proofs.DecidedLemmas.{always-settled}
use Rattle.pv_law_outcomes.proofs.OutcomeLemmas.{dead-out, dead-after, committed-after}
use Rattle.pv_law_outcomes.proofs.outcomes.outcomes_are_for_ever.Goals as goal

pub returns-clause-commit : goal.returns-clause-commit
returns-clause-commit c setup world later txn more is = committed-after setup txn world later more is

pub returns-clause-dead : goal.returns-clause-dead
returns-clause-dead c setup world later txn acts more dead = dead-after setup txn world later more (always-settled setup world acts) dead

pub returns-clause-out : goal.returns-clause-out
returns-clause-out c setup world txn acts dead = dead-out setup world (always-settled setup world acts) txn dead
