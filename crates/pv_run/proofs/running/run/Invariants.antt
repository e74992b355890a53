-- What stays true from event to event: the world in memory is the one after the events so far, and whatever goes on from here to the end of
-- what is left to be written goes on from the start to the end of all that is to be written.
use Rattle.pv_model.specs.Schedule.{significant}
use Rattle.pv_run.specs.InputAnswers.{written_within}
use Rattle.pv_script.specs.ScheduleView.{schedule_of}
use Rattle.pv_run.proofs.RunLemmas.{IsUnderWay}
use Rattle.pv_run.proofs.running.run.Given as goal

abbrev pub invariant-loop-event : goal.invariant-loop-event
invariant-loop-event g l =
    IsUnderWay g.W.Sink l.form (written_within l.form l.input (schedule_of l.schedule)) l.fn.sink l.sink (schedule_of l.schedule) l.world (significant l.said) l.event-index
