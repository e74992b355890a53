-- The lemmas, as the law of an empty function.
use Rattle.pv_law_calls.proofs.ArmedLemmas.{reads-same}
use Rattle.pv_ckpt.proofs.ArmedLemmas.{appends-armed, intact-holds, number-held, opening-fails, opens-a-log, opens-armed, packs-armed, reads-held}
use Rattle.pv_ckpt.proofs.memory.armed_logs.Goals as goal

pub returns-clause-looks : goal.returns-clause-looks
returns-clause-looks c = λ old new reads unread. reads-same old new reads unread

pub returns-clause-intact : goal.returns-clause-intact
returns-clause-intact c = λ contents standing armed log intact up holds. intact-holds contents standing armed log intact up holds

pub returns-clause-numbers : goal.returns-clause-numbers
returns-clause-numbers c = λ contents standing armed log up. number-held contents standing armed log up

pub returns-clause-reads : goal.returns-clause-reads
returns-clause-reads c = λ contents standing armed old new ok up goes. reads-held contents standing armed old new ok up goes

pub returns-clause-appends : goal.returns-clause-appends
returns-clause-appends c = λ contents standing armed old new content ok up made. appends-armed contents standing armed old new content ok up made

pub returns-clause-packs : goal.returns-clause-packs
returns-clause-packs c = λ contents standing armed old new ok intact up fits few made. packs-armed contents standing armed old intact up fits few new ok made

pub returns-clause-opens : goal.returns-clause-opens
returns-clause-opens c = λ contents standing armed old limit log holds opened. opens-armed contents standing armed old limit log holds opened

pub returns-clause-fails : goal.returns-clause-fails
returns-clause-fails c = λ contents standing armed old limit disk holds failed. opening-fails contents standing armed old limit disk holds failed

pub returns-clause-ours : goal.returns-clause-ours
returns-clause-ours c = λ contents standing armed old limit disk place holds refused. opens-a-log contents standing armed old limit disk place holds refused
