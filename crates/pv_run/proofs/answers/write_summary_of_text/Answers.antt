-- What was written is a beginning of the one answer that the text has.
use Rattle.std.proofs.Common.{◌≡◌, ◌≢◌, List, ℕ, [], OnOk, refl, subst}
use Rattle.std.specs.Io.KnownBytes.{Appends}
use Rattle.pv_io.specs.SinkEffects.{HasFailed}
use Rattle.pv_io.specs.Stream.{AppendsPrefix}
use Rattle.pv_script.specs.ScheduleView.{schedule_of}
use Rattle.pv_script.specs.ScriptErrors.{line_cause_of}
use Rattle.pv_run.specs.declared.status.Status.TheVariants.{Malformed}
use Rattle.pv_run.specs.InputAnswers.{fault_text}
use Rattle.pv_run.specs.Summary.{summary_of}
use Rattle.pv_run.proofs.AnswerLemmas.{answered_refusal, at_refusal_fault, prefix_of_answer, prefix_of_run, refused-at, wanted_of_answer}
use Rattle.pv_run.proofs.answers.write_summary_of_text.Goals as goal

pub write_summary_of_run-requires-clause-well_formed : goal.write_summary_of_run-requires-clause-well_formed
write_summary_of_run-requires-clause-well_formed g c =
    c.schedules_are_well_formed.ensures c.args.input.now (schedule_of c.in-Ok.schedule) c.in-Ok.ensures.answer.given

pub returns-in-Ok-clause-answered : goal.returns-in-Ok-clause-answered
returns-in-Ok-clause-answered g c = c.write_summary_of_run.ensures.answered c.args.input.now c.requires c.in-Ok.ensures.answer.given

pub returns-in-Ok-clause-prefix : goal.returns-in-Ok-clause-prefix
returns-in-Ok-clause-prefix g c = c.write_summary_of_run.ensures.prefix c.args.input.now c.requires c.in-Ok.ensures.answer.given

pub returns-in-Ok-clause-some : goal.returns-in-Ok-clause-some
returns-in-Ok-clause-some g c = c.write_summary_of_run.ensures.some c.args.input.now c.requires c.in-Ok.ensures.answer.given

pub returns-in-Err-Malformed-clause-answered : goal.returns-in-Err-Malformed-clause-answered
returns-in-Err-Malformed-clause-answered g c =
    let input = c.args.input.now in
    let line = c.in-Err-Malformed.line in
    let cause = c.in-Err-Malformed.cause in
    let old = g.W.Sink.held c.args.sink.now in
    let new = g.W.Sink.held c.refuse.new.sink in
    let refused = refused-at input _ line cause c.in-Err-Malformed.field-0-is c.in-Err-Malformed.ensures.answer.refused in
    let text : fault_text _ (line_cause_of _) ≡ fault_text line (line_cause_of cause) = λ i. fault_text (c.in-Err-Malformed.line-is i) (line_cause_of (c.in-Err-Malformed.cause-is i)) in
    answered_refusal summary_of (λ schedule. []) input c.refuse.result c.end_of_refusal.result old new line (line_cause_of cause) c.requires refused c.end_of_refusal.ensures
    (subst (λ (t : List ℕ). OnOk c.refuse.result (Appends old new t)) text c.refuse.ensures.written)

pub returns-in-Err-Malformed-clause-prefix : goal.returns-in-Err-Malformed-clause-prefix
returns-in-Err-Malformed-clause-prefix g c = λ status output is.
    let input = c.args.input.now in
    let line = c.in-Err-Malformed.line in
    let cause = c.in-Err-Malformed.cause in
    let old = g.W.Sink.held c.args.sink.now in
    let new = g.W.Sink.held c.refuse.new.sink in
    let refused = refused-at input _ line cause c.in-Err-Malformed.field-0-is c.in-Err-Malformed.ensures.answer.refused in
    let text : fault_text _ (line_cause_of _) ≡ fault_text line (line_cause_of cause) = λ i. fault_text (c.in-Err-Malformed.line-is i) (line_cause_of (c.in-Err-Malformed.cause-is i)) in
    prefix_of_answer summary_of (λ schedule. []) input Malformed status (fault_text line (line_cause_of cause)) output old new
    (c.requires, line, line_cause_of cause, refused, refl) (subst (AppendsPrefix old new) text (prefix_of_run c.refuse.result old new (fault_text _ (line_cause_of _)) c.refuse.ensures.written c.refuse.ensures.prefix)) is

pub returns-in-Err-Malformed-clause-some : goal.returns-in-Err-Malformed-clause-some
returns-in-Err-Malformed-clause-some g c = λ status output is fault.
    let input = c.args.input.now in
    let line = c.in-Err-Malformed.line in
    let cause = c.in-Err-Malformed.cause in
    let refused = refused-at input _ line cause c.in-Err-Malformed.field-0-is c.in-Err-Malformed.ensures.answer.refused in
    let text : fault_text _ (line_cause_of _) ≡ fault_text line (line_cause_of cause) = λ i. fault_text (c.in-Err-Malformed.line-is i) (line_cause_of (c.in-Err-Malformed.cause-is i)) in
    wanted_of_answer summary_of (λ schedule. []) input Malformed status (fault_text line (line_cause_of cause)) output (c.requires, line, line_cause_of cause, refused, refl)
    (subst (λ (t : List ℕ). t ≢ []) text (at_refusal_fault c.refuse.result c.end_of_refusal.result (fault_text _ (line_cause_of _) ≢ []) c.end_of_refusal.ensures c.refuse.ensures.some fault)) is

pub returns-in-Err-Malformed-clause-write_fault : goal.returns-in-Err-Malformed-clause-write_fault
returns-in-Err-Malformed-clause-write_fault g c =
    at_refusal_fault c.refuse.result c.end_of_refusal.result (HasFailed g.W.Sink c.args.sink.now c.refuse.new.sink) c.end_of_refusal.ensures c.refuse.ensures.fault
