-- The lemmas on the transfer.
use Rattle.pv_law_complete.proofs.UndelayedLemmas.{undelayed-runs, undelayed-undisturbed}
use Rattle.pv_law_complete.proofs.examples.transfer_is_undisturbed.Goals as goal

pub returns-clause-run : goal.returns-clause-run
returns-clause-run c = undelayed-runs

pub returns-clause-premises : goal.returns-clause-premises
returns-clause-premises c = undelayed-undisturbed
