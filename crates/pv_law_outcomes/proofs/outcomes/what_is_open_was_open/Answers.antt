use Rattle.pv_law_outcomes.proofs.DecidedLemmas.{always-settled}
use Rattle.pv_law_outcomes.proofs.OutcomeLemmas.{open-earlier, fits-earlier}
use Rattle.pv_law_outcomes.proofs.outcomes.what_is_open_was_open.Goals as goal

pub returns-clause-txn : goal.returns-clause-txn
returns-clause-txn c setup world later txn acts more placed is = open-earlier setup txn world later more (always-settled setup world acts) placed is

pub returns-clause-fits : goal.returns-clause-fits
returns-clause-fits c setup world later whole part acts more fits cut =
    fits-earlier setup world later more (always-settled setup world acts) whole part fits cut
