use Rattle.std.proofs.Common.{◌++◌}
use Rattle.pv_law_hosted.proofs.BegunLemmas.{begun-passed}
use Rattle.pv_law_hosted.proofs.KilledLemmas.{killed-dead}
use Rattle.pv_law_hosted.proofs.NumberEvents.{has-number-out, is-asked-after, new-numbers, numbers-stay-first}
use Rattle.pv_law_hosted.proofs.OutcomeLemmas.{later-acts, world-reached}
use Rattle.pv_law_hosted.proofs.commits_have_their_numbers_out.Goals as goal
use Rattle.pv_law_hosted.specs.Mirrored.{world_of}
use Rattle.pv_protocol.specs.State.{began}

pub returns-clause-new : goal.returns-clause-new
returns-clause-new c =
    new-numbers
    record {
      one_record = c.one_record.ensures;
      one_journal = λ bytes contents others first other. (c.one_journal.ensures bytes).one_value contents others first other;
      holds = c.files_are_journals.ensures.holds;
      written = c.files_hold_what_was_let_out.ensures.written;
      crashed = c.files_hold_what_was_let_out.ensures.crashed;
    }

pub returns-clause-event : goal.returns-clause-event
returns-clause-event c =
    numbers-stay-first
    record {
      one_record = c.one_record.ensures;
      one_journal = λ bytes contents others first other. (c.one_journal.ensures bytes).one_value contents others first other;
      holds = c.files_are_journals.ensures.holds;
      written = c.files_hold_what_was_let_out.ensures.written;
      crashed = c.files_hold_what_was_let_out.ensures.crashed;
    }

pub returns-clause-asked : goal.returns-clause-asked
returns-clause-asked c = λ setup d events txn m firsts is. is-asked-after setup d events m firsts txn is

pub returns-clause-committed : goal.returns-clause-committed
returns-clause-committed c = λ setup d events txn m firsts is. has-number-out setup d events m firsts txn is

pub returns-clause-killed : goal.returns-clause-killed
returns-clause-killed c setup d events more n txn mirrored firsts below gone there unasked well =
    let now = world_of setup events in
    let later = world_of setup (events ++ more) in
    let reaches = c.runs_are_reached.ensures.run setup events mirrored.well in
    let longer = c.runs_are_reached.ensures.run setup (events ++ more) well in
    let passed =
    begun-passed setup events reaches (c.epochs_are_recorded.ensures.run setup events) (c.memories_are_in_order.ensures.run setup events) txn
    (c.hosted_sites_agree.ensures.printed setup d events n (began txn) mirrored below there) in
    let dead =
    killed-dead setup d events mirrored firsts n txn below there unasked passed (c.mirrored_deployments_agree.ensures.file setup d events n mirrored below gone) in
    c.outcomes_are_for_ever.ensures.out setup later txn (world-reached setup (events ++ more) longer)
    (c.outcomes_are_for_ever.ensures.dead setup now later txn (world-reached setup events reaches) (later-acts setup events more longer) dead)
