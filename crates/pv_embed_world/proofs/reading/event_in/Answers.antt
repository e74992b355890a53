-- The event that was read is well-formed, as those of each schedule are.
use Rattle.std.proofs.Common.{[], ◌∷◌}
use Rattle.pv_script.specs.Behind.{schedule_over, with_line}
use Rattle.pv_script.specs.ScheduleView.{event_of}
use Rattle.pv_embed_world.proofs.ReadingLemmas.{is-well}
use Rattle.pv_embed_world.proofs.reading.event_in.Goals as goal

pub returns-in-Some-clause-well : goal.returns-in-Some-clause-well
returns-in-Some-clause-well c =
    let behind = c.args.declared.now in
    let event = event_of c.in-Some.event in
    let says = rw c.in-Some.is at c.in_ok-event.ensures.event in
    is-well behind.catalog event
    (c.schedules_are_well_formed.ensures (with_line behind.text c.args.line.now) (schedule_over behind.catalog (event ∷ [])) says)
