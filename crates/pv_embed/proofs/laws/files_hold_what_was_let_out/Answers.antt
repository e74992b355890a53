use Rattle.std.proofs.Common.{◌≡◌, ◌++◌, ◌∷◌, [], length, true, subst, sym, ◌∙◌, ap, append-nil}
use Rattle.pv_format.specs.Contents.{SpellRecords}
use Rattle.pv_disk_model.specs.Calls.{append, read_all, reserve}
use Rattle.pv_disk_model.specs.Size.{Contents}
use Rattle.pv_site.specs.SiteState.{SiteState}
use Rattle.pv_host.specs.HostFile.{IsFile}
use Rattle.pv_host.specs.HostLog.{HostState, contents_of}
use Rattle.pv_embed.proofs.KeptLemmas.{file_after, file_logged, nothing_written, out_in_file, out_stored, records_held, records_whole, step_rests}
use Rattle.pv_embed.proofs.LetOutLemmas.{kept_records}
use Rattle.pv_embed.proofs.laws.files_hold_what_was_let_out.Goals as goal
use Rattle.pv_embed.specs.Hosted.{HostedState}

pub returns-clause-opened : goal.returns-clause-opened
returns-clause-opened c = λ config file me hosted opened.
    file_after c.files_are_journals.ensures.called (read_all ∷ reserve (length opened.opened.content) ∷ append opened.opened.content ∷ []) opened.log hosted.site.log true file opened.opened.calls
    (c.files_are_journals.ensures.opened opened.log file opened.schedule.catalog.journal opened.opened_on)

pub returns-clause-stepped : goal.returns-clause-stepped
returns-clause-stepped c = λ old new input file stepped is_file.
    file_logged c.files_are_journals.ensures.called _ old.site.log new.site.log file stepped.steps.log is_file

pub returns-clause-stayed : goal.returns-clause-stayed
returns-clause-stayed c = λ old new file stays is_file. c.files_are_journals.ensures.called old.site.log new.site.log (reserve 0) true file stays.0 is_file

pub returns-clause-asked : goal.returns-clause-asked
returns-clause-asked c = λ old new room file asks is_file.
    subst (λ (log : HostState). IsFile log file) (sym asks.log) (c.files_are_journals.ensures.asked old.site.log room file is_file)

pub returns-clause-written : goal.returns-clause-written
returns-clause-written c = λ old new write file writes is is_file. c.files_are_journals.ensures.written old.site.log new.site.log write file is writes.log is_file

pub returns-clause-idle : goal.returns-clause-idle
returns-clause-idle c = λ old new file writes none is_file.
    c.files_are_journals.ensures.called old.site.log new.site.log (reserve 0) true file (nothing_written old.site.log new.site.log none writes.log) is_file

pub returns-clause-taken : goal.returns-clause-taken
returns-clause-taken c = λ old new result file takes is_file.
    subst (λ (site : SiteState HostState). IsFile site.log file) (sym (ap (λ (hosted : HostedState). hosted.site) takes.1)) is_file

pub returns-clause-crashed : goal.returns-clause-crashed
returns-clause-crashed c = λ hosted file left is_file may. c.files_are_journals.ensures.crashed hosted.site.log file left is_file may

pub returns-clause-held : goal.returns-clause-held
returns-clause-held c = λ hosted running file ready up is_file.
    records_held c.logs_tell_of_records.ensures.front hosted running file ready up (c.files_are_journals.ensures.holds hosted.site.log file is_file) (c.files_are_journals.ensures.journals hosted.site.log file is_file)

pub returns-clause-rests : goal.returns-clause-rests
returns-clause-rests c = step_rests

pub returns-clause-let_out : goal.returns-clause-let_out
returns-clause-let_out c = λ old new first later output file contents is takes is_file journal.
    out_in_file old first.length file contents (c.one_journal.ensures file) (c.files_are_journals.ensures.holds old.site.log file is_file) journal
    (out_stored old new first later output is takes)

pub returns-clause-whole : goal.returns-clause-whole
returns-clause-whole c = λ hosted running file contents front later ready up is_file journal is short.
    let held =
    records_held c.logs_tell_of_records.ensures.front hosted running file ready up (c.files_are_journals.ensures.holds hosted.site.log file is_file) (c.files_are_journals.ensures.journals hosted.site.log file is_file) in
    records_whole hosted file contents front later (c.one_journal.ensures file) held journal is short

pub returns-clause-kept : goal.returns-clause-kept
returns-clause-kept c = λ made now output running file contents was_ready out ready up is_file journal.
    let held =
    records_held c.logs_tell_of_records.ensures.front now running file ready up (c.files_are_journals.ensures.holds now.site.log file is_file) (c.files_are_journals.ensures.journals now.site.log file is_file) in
    kept_records made now output file contents was_ready out (c.one_journal.ensures file) held journal

pub returns-clause-reopened : goal.returns-clause-reopened
returns-clause-reopened c = λ config file me hosted contents records opened journal spelled.
    let same : opened.log.stored ≡ contents = (c.one_journal.ensures file).one_value opened.log.stored contents opened.opened_on.journal journal in
    let all : contents_of opened.log ≡ contents = ap (λ (l : Contents). opened.log.stored ++ (l ++ opened.log.pending)) opened.opened_on.asked ∙ ap (λ (l : Contents). opened.log.stored ++ l) opened.opened_on.pending ∙ append-nil opened.log.stored ∙ same in
    c.crashes_leave_before_or_after.ensures.openings opened.log me opened.schedule.catalog records hosted.site (subst (SpellRecords records) (sym all) spelled) opened.opened
