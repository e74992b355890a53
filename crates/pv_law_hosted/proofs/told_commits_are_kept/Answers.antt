use Rattle.pv_law_hosted.proofs.AgreeLemmas.{last-world}
use Rattle.pv_law_hosted.proofs.AloneLemmas.{keeps-file, mirrored-file, still-begun, still-committed, still-known}
use Rattle.pv_law_hosted.proofs.WalkedLemmas.{walked-on}
use Rattle.pv_law_hosted.proofs.told_commits_are_kept.Goals as goal
use Rattle.pv_law_world.specs.Sites.{AreEpochsRecorded}
use Rattle.pv_protocol.specs.Run.{run}
use Rattle.pv_protocol.specs.World.{opening}

pub returns-clause-mirrored : goal.returns-clause-mirrored
returns-clause-mirrored c setup d events n mirrored below =
    mirrored-file setup d events n (last-world AreEpochsRecorded (opening setup) (run setup (opening setup) events) (c.epochs_are_recorded.ensures.run setup events)) mirrored below

pub returns-clause-goes_on : goal.returns-clause-goes_on
returns-clause-goes_on c =
    keeps-file
    record {
      tells = c.logs_tell_of_records.ensures.size;
      one_record = c.one_record.ensures;
      one_journal = λ bytes contents others first other. (c.one_journal.ensures bytes).one_value contents others first other;
      one_schedule = c.one_schedule.ensures;
      new_numbers = c.no_txn_is_begun_twice.ensures.run;
      journals = c.files_are_journals.ensures.journals;
      keeps = c.files_are_journals.ensures.keeps;
      opened = c.files_hold_what_was_let_out.ensures.opened;
      stepped = c.files_hold_what_was_let_out.ensures.stepped;
      stayed = c.files_hold_what_was_let_out.ensures.stayed;
      asked = c.files_hold_what_was_let_out.ensures.asked;
      written = c.files_hold_what_was_let_out.ensures.written;
      idle = c.files_hold_what_was_let_out.ensures.idle;
      crashed = c.files_hold_what_was_let_out.ensures.crashed;
    }

pub returns-clause-walked : goal.returns-clause-walked
returns-clause-walked c config catalog d later n last happens goes_on = walked-on config catalog d later happens n last goes_on

pub returns-clause-kept : goal.returns-clause-kept
returns-clause-kept c n first last site new later txn has here told goes_on there =
    still-known
    record {
      tells = c.logs_tell_of_records.ensures.size;
      one_record = c.one_record.ensures;
      one_journal = λ bytes contents others first other. (c.one_journal.ensures bytes).one_value contents others first other;
      one_schedule = c.one_schedule.ensures;
      new_numbers = c.no_txn_is_begun_twice.ensures.run;
      journals = c.files_are_journals.ensures.journals;
      keeps = c.files_are_journals.ensures.keeps;
      opened = c.files_hold_what_was_let_out.ensures.opened;
      stepped = c.files_hold_what_was_let_out.ensures.stepped;
      stayed = c.files_hold_what_was_let_out.ensures.stayed;
      asked = c.files_hold_what_was_let_out.ensures.asked;
      written = c.files_hold_what_was_let_out.ensures.written;
      idle = c.files_hold_what_was_let_out.ensures.idle;
      crashed = c.files_hold_what_was_let_out.ensures.crashed;
    }
    n first last site new later txn has here told goes_on there

pub returns-clause-told : goal.returns-clause-told
returns-clause-told c n first last site new later again txn outcome has here told goes_on there other =
    still-committed
    record {
      tells = c.logs_tell_of_records.ensures.size;
      one_record = c.one_record.ensures;
      one_journal = λ bytes contents others first other. (c.one_journal.ensures bytes).one_value contents others first other;
      one_schedule = c.one_schedule.ensures;
      new_numbers = c.no_txn_is_begun_twice.ensures.run;
      journals = c.files_are_journals.ensures.journals;
      keeps = c.files_are_journals.ensures.keeps;
      opened = c.files_hold_what_was_let_out.ensures.opened;
      stepped = c.files_hold_what_was_let_out.ensures.stepped;
      stayed = c.files_hold_what_was_let_out.ensures.stayed;
      asked = c.files_hold_what_was_let_out.ensures.asked;
      written = c.files_hold_what_was_let_out.ensures.written;
      idle = c.files_hold_what_was_let_out.ensures.idle;
      crashed = c.files_hold_what_was_let_out.ensures.crashed;
    }
    n first last site new later txn has here told goes_on there again outcome other

pub returns-clause-begun : goal.returns-clause-begun
returns-clause-begun c n first last site new later again txn has here told goes_on there other =
    still-begun
    record {
      tells = c.logs_tell_of_records.ensures.size;
      one_record = c.one_record.ensures;
      one_journal = λ bytes contents others first other. (c.one_journal.ensures bytes).one_value contents others first other;
      one_schedule = c.one_schedule.ensures;
      new_numbers = c.no_txn_is_begun_twice.ensures.run;
      journals = c.files_are_journals.ensures.journals;
      keeps = c.files_are_journals.ensures.keeps;
      opened = c.files_hold_what_was_let_out.ensures.opened;
      stepped = c.files_hold_what_was_let_out.ensures.stepped;
      stayed = c.files_hold_what_was_let_out.ensures.stayed;
      asked = c.files_hold_what_was_let_out.ensures.asked;
      written = c.files_hold_what_was_let_out.ensures.written;
      idle = c.files_hold_what_was_let_out.ensures.idle;
      crashed = c.files_hold_what_was_let_out.ensures.crashed;
    }
    n first last site new later txn has here told goes_on there again other
