-- The text so far has the lines of the events so far.
use Rattle.std.proofs.Common.{◌≡◌, ◌++◌, map, take}
use Rattle.pv_script.specs.ScheduleView.{event_of}
use Rattle.pv_transcript.specs.ScheduleText.{events_text}
use Rattle.pv_transcript.proofs.parts.push_events.Given as goal

abbrev pub invariant-loop-event : goal.invariant-loop-event
invariant-loop-event l = l.text.items ≡ l.initial.text.items ++ events_text (map event_of (take l.event-index l.events))
