-- What was written is a beginning of the one answer that the input has.
use Rattle.std.proofs.Common.{◌≡◌, ◌≢◌, List, ℕ, [], OnOk, refl, sym, ap, ◌∙◌, subst}
use Rattle.std.specs.Io.KnownBytes.{Appends}
use Rattle.pv_io.specs.SinkEffects.{HasFailed}
use Rattle.pv_io.specs.Stream.{AppendsPrefix}
use Rattle.pv_law_schedules.proofs.OneScheduleLemmas.{one_schedule}
use Rattle.pv_model.specs.Events.{Schedule}
use Rattle.pv_script.specs.ScheduleView.{schedule_of}
use Rattle.pv_script.specs.ScriptErrors.{line_cause_of}
use Rattle.pv_run.specs.declared.status.Status.TheVariants.{Malformed}
use Rattle.pv_run.specs.InputAnswers.{fault_text, within_limit, written_of, written_within}
use Rattle.pv_run.specs.KeptDisks.{KeepsSites, last_world}
use Rattle.pv_run.specs.Statuses.{end_of_run, end_within, text_status}
use Rattle.pv_run.proofs.AnswerLemmas.{answer_of_run, at_refusal_fault, answered_refusal, answered_run, prefix_of_answer, prefix_of_run, refusal-not-done, refused-at, run-is-done, wanted_of_answer, wanted_of_run}
use Rattle.pv_run.proofs.answers.answer.Goals as goal

pub run-requires-clause-well_formed : goal.run-requires-clause-well_formed
run-requires-clause-well_formed g c = c.schedules_are_well_formed.ensures c.args.input.now (schedule_of c.in-Ok.schedule) c.in-Ok.ensures.answer.given

pub returns-in-Ok-clause-answered : goal.returns-in-Ok-clause-answered
returns-in-Ok-clause-answered g c =
    rw c.end_of_run.ensures
    (answered_run c.args.form c.args.input.now (schedule_of c.in-Ok.schedule) c.run.result (g.W.Sink.held c.args.sink.now) (g.W.Sink.held c.run.new.sink) c.requires c.in-Ok.ensures.answer.given
    c.run.ensures.over c.run.ensures.writes.written)

pub returns-in-Ok-clause-prefix : goal.returns-in-Ok-clause-prefix
returns-in-Ok-clause-prefix g c = λ status text is.
    let form = c.args.form in
    let input = c.args.input.now in
    let schedule = schedule_of c.in-Ok.schedule in
    let old = g.W.Sink.held c.args.sink.now in
    let new = g.W.Sink.held c.run.new.sink in
    let written = prefix_of_run c.run.result old new (written_within form input schedule) c.run.ensures.writes.written c.run.ensures.writes.prefix in
    prefix_of_answer (written_of form input) (written_within form input) input (text_status (end_within (within_limit schedule).over)) status (written_within form input schedule) text old new
    (answer_of_run form input schedule c.requires c.in-Ok.ensures.answer.given) written is

pub returns-in-Ok-clause-some : goal.returns-in-Ok-clause-some
returns-in-Ok-clause-some g c = λ status text is fault.
    let form = c.args.form in
    let input = c.args.input.now in
    let schedule = schedule_of c.in-Ok.schedule in
    wanted_of_answer (written_of form input) (written_within form input) input (text_status (end_within (within_limit schedule).over)) status (written_within form input schedule) text
    (answer_of_run form input schedule c.requires c.in-Ok.ensures.answer.given)
    (wanted_of_run c.run.result (written_within form input schedule) c.run.ensures.writes.some (sym c.end_of_run.ensures ∙ fault)) is

pub returns-in-Err-Malformed-clause-answered : goal.returns-in-Err-Malformed-clause-answered
returns-in-Err-Malformed-clause-answered g c =
    let input = c.args.input.now in
    let line = c.in-Err-Malformed.line in
    let cause = c.in-Err-Malformed.cause in
    let old = g.W.Sink.held c.args.sink.now in
    let new = g.W.Sink.held c.refuse.new.sink in
    let refused = refused-at input _ line cause c.in-Err-Malformed.field-0-is c.in-Err-Malformed.ensures.answer.refused in
    let text : fault_text _ (line_cause_of _) ≡ fault_text line (line_cause_of cause) = λ i. fault_text (c.in-Err-Malformed.line-is i) (line_cause_of (c.in-Err-Malformed.cause-is i)) in
    answered_refusal (written_of c.args.form input) (written_within c.args.form input) input c.refuse.result c.end_of_refusal.result old new line (line_cause_of cause) c.requires refused
    c.end_of_refusal.ensures (subst (λ (t : List ℕ). OnOk c.refuse.result (Appends old new t)) text c.refuse.ensures.written)

pub returns-in-Err-Malformed-clause-prefix : goal.returns-in-Err-Malformed-clause-prefix
returns-in-Err-Malformed-clause-prefix g c = λ status output is.
    let input = c.args.input.now in
    let line = c.in-Err-Malformed.line in
    let cause = c.in-Err-Malformed.cause in
    let old = g.W.Sink.held c.args.sink.now in
    let new = g.W.Sink.held c.refuse.new.sink in
    let refused = refused-at input _ line cause c.in-Err-Malformed.field-0-is c.in-Err-Malformed.ensures.answer.refused in
    let text : fault_text _ (line_cause_of _) ≡ fault_text line (line_cause_of cause) = λ i. fault_text (c.in-Err-Malformed.line-is i) (line_cause_of (c.in-Err-Malformed.cause-is i)) in
    prefix_of_answer (written_of c.args.form input) (written_within c.args.form input) input Malformed status (fault_text line (line_cause_of cause)) output old new
    (c.requires, line, line_cause_of cause, refused, refl) (subst (AppendsPrefix old new) text (prefix_of_run c.refuse.result old new (fault_text _ (line_cause_of _)) c.refuse.ensures.written c.refuse.ensures.prefix)) is

pub returns-in-Err-Malformed-clause-some : goal.returns-in-Err-Malformed-clause-some
returns-in-Err-Malformed-clause-some g c = λ status output is fault.
    let input = c.args.input.now in
    let line = c.in-Err-Malformed.line in
    let cause = c.in-Err-Malformed.cause in
    let refused = refused-at input _ line cause c.in-Err-Malformed.field-0-is c.in-Err-Malformed.ensures.answer.refused in
    let text : fault_text _ (line_cause_of _) ≡ fault_text line (line_cause_of cause) = λ i. fault_text (c.in-Err-Malformed.line-is i) (line_cause_of (c.in-Err-Malformed.cause-is i)) in
    wanted_of_answer (written_of c.args.form input) (written_within c.args.form input) input Malformed status (fault_text line (line_cause_of cause)) output (c.requires, line, line_cause_of cause, refused, refl)
    (subst (λ (t : List ℕ). t ≢ []) text (at_refusal_fault c.refuse.result c.end_of_refusal.result (fault_text _ (line_cause_of _) ≢ []) c.end_of_refusal.ensures c.refuse.ensures.some fault)) is

-- At `Done` the run was that of the schedule which the text is.
pub returns-in-Ok-clause-kept : goal.returns-in-Ok-clause-kept
returns-in-Ok-clause-kept g c = λ done schedule says.
    let same = one_schedule c.args.input.now (schedule_of c.in-Ok.schedule) schedule c.in-Ok.ensures.answer.given says in
    subst (λ (s : Schedule). KeepsSites g.B.Bay.model c.args.bay.now c.run.new.bay (last_world s).sites) same
    (c.run.ensures.kept (run-is-done c.run.result (sym c.end_of_run.ensures ∙ done)))

pub returns-in-Ok-clause-alone : goal.returns-in-Ok-clause-alone
returns-in-Ok-clause-alone g c = λ other. c.run.ensures.alone (λ all. other (c.end_of_run.ensures ∙ ap end_of_run all))

pub returns-in-Err-Malformed-clause-kept : goal.returns-in-Err-Malformed-clause-kept
returns-in-Err-Malformed-clause-kept g c = λ done schedule says. absurd (refusal-not-done c.refuse.result c.end_of_refusal.result c.end_of_refusal.ensures done)

pub returns-in-Err-Malformed-clause-write_fault : goal.returns-in-Err-Malformed-clause-write_fault
returns-in-Err-Malformed-clause-write_fault g c =
    at_refusal_fault c.refuse.result c.end_of_refusal.result (HasFailed g.W.Sink c.args.sink.now c.refuse.new.sink) c.end_of_refusal.ensures c.refuse.ensures.fault
