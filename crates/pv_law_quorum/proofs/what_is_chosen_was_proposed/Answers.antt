use Rattle.pv_law_quorum.proofs.RunLemmas.{was-proposed}
use Rattle.pv_law_quorum.proofs.what_is_chosen_was_proposed.Goals as goal

pub returns : goal.returns
returns c setup fit events txn v is = was-proposed setup fit events txn v is
