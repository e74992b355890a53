use Rattle.pv_outbox.proofs.OneRecordLemmas.{same-records}
use Rattle.pv_outbox.proofs.StandsLemmas.{spelled-more}
use Rattle.pv_outbox.proofs.laws.contents_tell_records.Goals as goal

pub returns-clause-one : goal.returns-clause-one
returns-clause-one c = same-records

pub returns-clause-more : goal.returns-clause-more
returns-clause-more c = spelled-more
