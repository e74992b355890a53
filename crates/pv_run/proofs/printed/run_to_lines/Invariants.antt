-- What stays true from event to event: the world in memory is the one after the events so far, and the lines so far are what was to be printed before
-- what is left.
use Rattle.std.proofs.Common.{map}
use Rattle.pv_script.specs.LineView.{line_of}
use Rattle.pv_script.specs.ScheduleView.{schedule_of}
use Rattle.pv_run.proofs.RunLemmas.{HasCollected}
use Rattle.pv_run.proofs.printed.run_to_lines.Given as goal

abbrev pub invariant-loop-event : goal.invariant-loop-event
invariant-loop-event l = HasCollected (schedule_of l.schedule) l.world l.event-index (map line_of l.lines.items)
