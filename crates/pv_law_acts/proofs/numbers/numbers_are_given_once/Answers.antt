use Rattle.std.proofs.Common.{sym, subst}
use Rattle.pv_law_acts.proofs.PassedLemmas.{txn-unpassed, txn-passed, grant-unpassed, grant-passed, passed-later, grant-passed-later}
use Rattle.pv_law_acts.proofs.numbers.numbers_are_given_once.Goals as goal
use Rattle.pv_law_acts.specs.Seen.{IsPassed, IsGrantPassed}

pub returns-clause-txns : goal.returns-clause-txns
returns-clause-txns c setup world next later after txn other gives acts again same =
    txn-unpassed setup later after other again
    (subst (IsPassed later) (sym same) (passed-later setup txn next later acts (txn-passed setup world next txn gives)))

pub returns-clause-grants : goal.returns-clause-grants
returns-clause-grants c setup world next later after n id other gives acts again same =
    grant-unpassed setup later after n other again
    (subst (IsGrantPassed later n) (sym same) (grant-passed-later setup n id next later acts (grant-passed setup world next n id gives)))
