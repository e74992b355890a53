use Rattle.pv_law_load.proofs.SendLemmas.{sends-few}
use Rattle.pv_law_load.proofs.sends_are_few.Goals as goal

pub returns : goal.returns
returns c here input few items narrow = sends-few here few items narrow input
