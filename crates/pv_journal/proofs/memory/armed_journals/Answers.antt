-- The lemmas, as the law of an empty function.
use Rattle.pv_journal.proofs.ArmedLemmas.{appends-armed, intact-holds, opening-fails, opens-a-journal, opens-armed, reads-held}
use Rattle.pv_law_calls.proofs.ArmedLemmas.{reads-same}
use Rattle.pv_journal.proofs.memory.armed_journals.Goals as goal

pub returns-clause-looks : goal.returns-clause-looks
returns-clause-looks c = λ old new reads unread. reads-same old new reads unread

pub returns-clause-intact : goal.returns-clause-intact
returns-clause-intact c = λ contents armed journal intact up holds. intact-holds contents armed journal intact up holds

pub returns-clause-reads : goal.returns-clause-reads
returns-clause-reads c = λ contents armed old new ok up goes. reads-held contents armed old new ok up goes

pub returns-clause-appends : goal.returns-clause-appends
returns-clause-appends c = λ contents armed old new content ok up made. appends-armed contents armed old new content ok up made

pub returns-clause-opens : goal.returns-clause-opens
returns-clause-opens c = λ contents armed old limit journal holds opened. opens-armed contents armed old limit journal holds opened

pub returns-clause-fails : goal.returns-clause-fails
returns-clause-fails c = λ contents armed old limit disk holds failed. opening-fails contents armed old limit disk holds failed

pub returns-clause-ours : goal.returns-clause-ours
returns-clause-ours c = λ contents armed old limit disk place holds refused. opens-a-journal contents armed old limit disk place holds refused
