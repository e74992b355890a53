use Rattle.std.proofs.Common.{true, false}
use Rattle.pv_law_outcomes.proofs.DecidedLemmas.{always-settled}
use Rattle.pv_law_outcomes.proofs.OutcomeLemmas.{known-outcome, one-outcome, dead-out, settled-after, dead-after}
use Rattle.pv_law_outcomes.proofs.outcomes.no_two_outcomes.Goals as goal

pub returns-clause-one : goal.returns-clause-one
returns-clause-one c setup world acts n other txn outcome reported knows also =
    one-outcome setup world (always-settled setup world acts) n other txn outcome reported knows also

pub returns-clause-commit : goal.returns-clause-commit
returns-clause-commit c setup world acts n txn knows = known-outcome setup world (always-settled setup world acts) n txn true knows

pub returns-clause-abort : goal.returns-clause-abort
returns-clause-abort c setup world acts n txn knows = known-outcome setup world (always-settled setup world acts) n txn false knows

pub returns-clause-out : goal.returns-clause-out
returns-clause-out c setup world later acts more n txn knows =
    dead-out setup later (settled-after setup world later more (always-settled setup world acts)) txn
    (dead-after setup txn world later more (always-settled setup world acts) (known-outcome setup world (always-settled setup world acts) n txn false knows))
