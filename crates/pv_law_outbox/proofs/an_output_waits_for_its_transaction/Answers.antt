use Rattle.pv_law_outbox.proofs.ExampleLemmas.{waiting-run}
use Rattle.pv_law_outbox.proofs.an_output_waits_for_its_transaction.Goals as goal

pub returns : goal.returns
returns c = waiting-run
