use Rattle.pv_law_histories.proofs.PostingLemmas.{fit-together}
use Rattle.pv_law_histories.proofs.passed_messages_fit_together.Goals as goal

pub returns : goal.returns
returns c setup histories pass = fit-together setup histories pass
