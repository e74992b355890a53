-- What all lines say is the schedule that the text is.
use Rattle.std.proofs.Common.{Err, map, arith}
use Rattle.std.proofs.lemmas.List.{length-map}
use Rattle.std.proofs.lemmas.Result.{err_from_is_err_and}
use Rattle.pv_model.specs.Schedule.{IsSchedule}
use Rattle.pv_base.proofs.AnswerLemmas.{answered}
use Rattle.pv_script.specs.ScriptErrors.{IsMalformedAt, refused_line}
use Rattle.pv_script.specs.ScheduleView.{event_of, schedule_of}
use Rattle.pv_script.proofs.CountLemmas.{few-events}
use Rattle.pv_script.proofs.ScheduleLemmas.{IsSchedule-read, one}
use Rattle.pv_script.proofs.read.read_schedule.Goals as goal

pub returns-in_err-said-clause-answer : goal.returns-in_err-said-clause-answer
returns-in_err-said-clause-answer c =
    let p = err_from_is_err_and c.from_residual.result c.from_residual.ensures.1 in
    rw (p.1, p.2) (answered (IsSchedule c.args.text.now) (IsMalformedAt c.args.text.now) (one c.args.text.now) schedule_of refused_line (Err c.in_err-said.field-0.0) tt c.in_err-said.ensures.fault)

pub returns-clause-answer : goal.returns-clause-answer
returns-clause-answer c =
    answered (IsSchedule c.args.text.now) (IsMalformedAt c.args.text.now) (one c.args.text.now) schedule_of refused_line _
    (IsSchedule-read c.args.text.now c.in_ok-said.said (map event_of c.in_ok-said.events.items) c.in_ok-said.ensures.limited c.in_ok-said.ensures.are) tt

pub returns-clause-few : goal.returns-clause-few
returns-clause-few c =
    let few = few-events c.args.text.now _ (returns-clause-answer c).given in
    let all = length-map c.in_ok-said.events.items event_of in
    omega (arith, few, c.in_ok-said.events.ok.0)
