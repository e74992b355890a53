use Rattle.pv_law_outcomes.proofs.DecidedLemmas.{always-settled}
use Rattle.pv_law_outcomes.proofs.OutcomeLemmas.{fits-known}
use Rattle.pv_law_outcomes.proofs.outcomes.what_fits_is_known.Goals as goal

pub returns : goal.returns
returns c setup world assignment acts fits n txn outcome knows = fits-known setup world (always-settled setup world acts) assignment fits n txn outcome knows
