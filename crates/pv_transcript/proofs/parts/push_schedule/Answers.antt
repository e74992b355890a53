-- The heading, and a beginning of the lines of the catalog.
use Rattle.std.proofs.Common.{◌++◌, codes, map}
use Rattle.pv_script.specs.ScheduleView.{event_of}
use Rattle.pv_transcript.specs.Begins.{Begins}
use Rattle.pv_transcript.specs.ScheduleText.{catalog_text, events_text}
use Rattle.pv_transcript.specs.Transcript.{schedule_part}
use Rattle.pv_transcript.proofs.HeldLemmas.{begun_first, begun_next, on_err}
use Rattle.pv_transcript.proofs.parts.push_schedule.Goals as goal

pub returns-in_err-push_catalog-clause-begun : goal.returns-in_err-push_catalog-clause-begun
returns-in_err-push_catalog-clause-begun c =
    let old = c.args.text.now.items in
    let mid = c.push_bytes.new.text.items in
    let new = c.push_catalog.new.text.items in
    let catalog = catalog_text c.args.catalog.now in
    let events = events_text (map event_of c.args.events.now) in
    on_err c.from_residual-in_err-push_catalog.result (Begins new (old ++ schedule_part c.args.catalog.now (map event_of c.args.events.now)))
    (begun_next old (codes "schedule\n") (catalog ++ events) mid new c.in_ok-push_bytes.ensures.text
    (begun_first mid catalog events new c.in_err-push_catalog.ensures.begun))
