use Rattle.pv_law_outcomes.proofs.DecidedLemmas.{always-settled}
use Rattle.pv_law_outcomes.proofs.outcomes.outcomes_are_decided.Goals as goal

pub returns : goal.returns
returns c setup world acts = (always-settled setup world acts).decided
