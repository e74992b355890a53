use Rattle.pv_law_events.proofs.ExampleLemmas.{none-fits, one-fits}
use Rattle.pv_law_events.proofs.examples.doubt_is_readable.Goals as goal

pub returns-clause-aborted : goal.returns-clause-aborted
returns-clause-aborted c = none-fits

pub returns-clause-committed : goal.returns-clause-committed
returns-clause-committed c = one-fits
