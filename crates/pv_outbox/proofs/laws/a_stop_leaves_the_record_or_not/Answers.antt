use Rattle.pv_outbox.proofs.laws.a_stop_leaves_the_record_or_not.Goals as goal

pub returns-clause-written : goal.returns-clause-written
returns-clause-written g c = λ old new contents entry known writes.
    (writes.bytes, writes.spelled, (writes.log.any_moment contents known).each, writes.log.durable contents known)

pub returns-clause-broken : goal.returns-clause-broken
returns-clause-broken g c = λ old new contents entry known breaks. (breaks.bytes, breaks.spelled, (breaks.log.any_moment contents known).each)
