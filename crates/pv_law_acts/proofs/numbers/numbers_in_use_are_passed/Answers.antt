use Rattle.pv_law_acts.proofs.PassedLemmas.{numbers-always-passed, txn-unpassed, grant-unpassed}
use Rattle.pv_law_acts.proofs.numbers.numbers_in_use_are_passed.Goals as goal

pub returns-clause-in_use : goal.returns-clause-in_use
returns-clause-in_use c setup world acts = numbers-always-passed setup world acts

pub returns-clause-txns : goal.returns-clause-txns
returns-clause-txns c setup world after txn gives passed = txn-unpassed setup world after txn gives passed

pub returns-clause-grants : goal.returns-clause-grants
returns-clause-grants c setup world after n id gives passed = grant-unpassed setup world after n id gives passed
