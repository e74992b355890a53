use Rattle.pv_outbox.proofs.StandsLemmas.{stands-written, stands-still, written-by}
use Rattle.pv_outbox.proofs.laws.records_follow_calls.Goals as goal

pub returns-clause-written : goal.returns-clause-written
returns-clause-written g c = λ old new entries contents entry stands may writes.
    (writes.bytes, writes.spelled, stands-written g.L.Log.model old new entries contents stands entry writes, written-by g.L.Log.model old new entries contents stands entry writes may)

pub returns-clause-stays : goal.returns-clause-stays
returns-clause-stays g c = λ old new entries contents stands stays. stands-still g.L.Log.model old new entries contents stands stays
