use Rattle.pv_law_outbox.proofs.ExampleLemmas.{written-run, unwritten-run}
use Rattle.pv_law_outbox.proofs.a_stopped_release_is_written_or_not.Goals as goal

pub returns-clause-written : goal.returns-clause-written
returns-clause-written c = written-run

pub returns-clause-unwritten : goal.returns-clause-unwritten
returns-clause-unwritten c = unwritten-run
