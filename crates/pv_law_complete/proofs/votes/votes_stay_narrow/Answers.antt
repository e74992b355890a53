-- The lemma on votes.
use Rattle.pv_law_complete.proofs.AskedLemmas.{votes-are-narrow}
use Rattle.pv_law_complete.proofs.votes.votes_stay_narrow.Goals as goal

pub returns : goal.returns
returns c = λ setup world acts. votes-are-narrow setup world acts
