use Rattle.pv_law_outbox.specs.Runs.{holds, learns}
use Rattle.pv_law_outbox.proofs.RunLemmas.{at-event, kept-in, held-stays, learnt-stays}
use Rattle.pv_law_outbox.proofs.what_was_written_stays.Goals as goal

pub returns-clause-kept : goal.returns-clause-kept
returns-clause-kept c old events new run = kept-in old events new run

pub returns-clause-held : goal.returns-clause-held
returns-clause-held c old before output when since new run =
    let at = at-event old before (holds output when) since new run in
    (kept-in at.next since new at.rest).held output when (held-stays at.mid output when at.next at.happens)

pub returns-clause-learnt : goal.returns-clause-learnt
returns-clause-learnt c old before txn commits since new run =
    let at = at-event old before (learns txn commits) since new run in
    (kept-in at.next since new at.rest).outcomes txn commits (learnt-stays at.mid txn commits at.next at.happens)
