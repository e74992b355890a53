-- Where the next event's line finds no memory, the text begins that of all events.
use Rattle.std.proofs.Common.{◌++◌, map}
use Rattle.pv_script.specs.ScheduleView.{event_of}
use Rattle.pv_transcript.specs.Begins.{Begins}
use Rattle.pv_transcript.specs.ScheduleText.{event_line, events_text}
use Rattle.pv_transcript.proofs.HeldLemmas.{on_err}
use Rattle.pv_transcript.proofs.ItemLemmas.{begun_at}
use Rattle.pv_transcript.proofs.parts.push_events.Goals as goal

pub returns-in_err-push_event-clause-begun : goal.returns-in_err-push_event-clause-begun
returns-in_err-push_event-clause-begun c =
    on_err c.from_residual.result (Begins c.push_event.new.text.items (c.args.text.now.items ++ events_text (map event_of c.args.events.now)))
    (begun_at event_line event_of c.args.events.now c.loop-event.event-index c.event-item.result c.args.text.now.items c.loop-event.text.items c.push_event.new.text.items
    c.loop-event-test.true c.event-item.is c.loop-event.invariant c.in_err-push_event.ensures.begun)
