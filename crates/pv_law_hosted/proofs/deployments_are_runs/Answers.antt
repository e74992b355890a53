use Rattle.pv_law_hosted.proofs.ClaimLemmas.{new-mirrored}
use Rattle.pv_law_hosted.proofs.HappensLemmas.{goes-on}
use Rattle.pv_law_hosted.proofs.deployments_are_runs.Goals as goal

pub returns-clause-new : goal.returns-clause-new
returns-clause-new c = new-mirrored

pub returns-clause-event : goal.returns-clause-event
returns-clause-event c =
    goes-on
    record {
      tells = c.logs_tell_of_records.ensures.size;
      one_record = c.one_record.ensures;
      one_journal = λ bytes contents others first other. (c.one_journal.ensures bytes).one_value contents others first other;
      one_schedule = c.one_schedule.ensures;
      new_numbers = c.no_txn_is_begun_twice.ensures.run;
      journals = c.files_are_journals.ensures.journals;
      keeps = c.files_are_journals.ensures.keeps;
      opened = c.files_hold_what_was_let_out.ensures.opened;
      stepped = c.files_hold_what_was_let_out.ensures.stepped;
      stayed = c.files_hold_what_was_let_out.ensures.stayed;
      asked = c.files_hold_what_was_let_out.ensures.asked;
      written = c.files_hold_what_was_let_out.ensures.written;
      idle = c.files_hold_what_was_let_out.ensures.idle;
      crashed = c.files_hold_what_was_let_out.ensures.crashed;
    }
