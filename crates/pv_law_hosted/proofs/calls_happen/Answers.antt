use Rattle.pv_law_hosted.proofs.CallLemmas.{ask-happens, beside-happens, give-happens, going-happens, idle-happens, mirrored-has, opening-happens, receive-happens, submit-happens, take-happens, tell-happens, tick-happens, write-happens, writing-happens}
use Rattle.pv_law_hosted.proofs.WalkedLemmas.{opened-has, still-has}
use Rattle.pv_law_hosted.proofs.calls_happen.Goals as goal

pub returns-clause-has : goal.returns-clause-has
returns-clause-has c = mirrored-has

pub returns-clause-has_opened : goal.returns-clause-has_opened
returns-clause-has_opened c config file schedule d n site configures opened here = opened-has c.one_schedule.ensures config file schedule d n site configures opened here

pub returns-clause-keeps : goal.returns-clause-keeps
returns-clause-keeps c config catalog other d later n site next has happens here = still-has config other d later happens n catalog site next has here

pub returns-clause-submitted : goal.returns-clause-submitted
returns-clause-submitted c config catalog d n site next text query result has stands by =
    submit-happens config catalog d n site has c.some_items.ensures next text query result stands by

pub returns-clause-received : goal.returns-clause-received
returns-clause-received c config catalog d n site next bytes result has stands from by = receive-happens config catalog d n site has next bytes result stands from by

pub returns-clause-ticked : goal.returns-clause-ticked
returns-clause-ticked c config catalog d n site next result has stands by = tick-happens config catalog d n site has next result stands by

pub returns-clause-asked : goal.returns-clause-asked
returns-clause-asked c config catalog d n site next room has stands by = ask-happens config catalog d n site has next room stands by

pub returns-clause-wrote : goal.returns-clause-wrote
returns-clause-wrote c config catalog d n site next write has stands is by = write-happens config catalog d n site has next write stands is by

pub returns-clause-idled : goal.returns-clause-idled
returns-clause-idled c config catalog d n site next has stands is by = idle-happens config catalog d n site has next stands is by

pub returns-clause-took : goal.returns-clause-took
returns-clause-took c config catalog d n site next result has stands by = take-happens config catalog d n site has next result stands by

pub returns-clause-gave : goal.returns-clause-gave
returns-clause-gave c config catalog d n site next first later has stands held within is = give-happens config catalog d n site has next first later stands held within is

pub returns-clause-told : goal.returns-clause-told
returns-clause-told c config catalog d n site next txn result has stands told = tell-happens config catalog d n site has next txn result stands told

pub returns-clause-is_writing : goal.returns-clause-is_writing
returns-clause-is_writing c config catalog d n site left has stands may = writing-happens config catalog d n site has left stands may

pub returns-clause-gone : goal.returns-clause-gone
returns-clause-gone c config catalog d n site left has may = going-happens config catalog d n site has left may

pub returns-clause-opened : goal.returns-clause-opened
returns-clause-opened c config catalog d n site known gone opened stands = opening-happens config catalog d n site known gone stands opened

pub returns-clause-opened_beside : goal.returns-clause-opened_beside
returns-clause-opened_beside c config catalog d n site bytes left known gone read still opened stands =
    beside-happens config catalog d n site known gone stands (λ at contents others first other. (c.one_journal.ensures at).one_value contents others first other) bytes left read still opened
