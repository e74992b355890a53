-- The events are those of the schedule.
use Rattle.std.proofs.Common.{◌<◌, length, map, sym, ap, subst, ◌∙◌}
use Rattle.std.specs.Prelude.{All}
use Rattle.std.proofs.Math.ListN.{length-map, get_or-map}
use Rattle.std.proofs.lemmas.List.Elements.{All-get_or}
use Rattle.pv_protocol.specs.WellFormed.{IsWellFormed}
use Rattle.pv_script.specs.ScheduleView.{event_of, schedule_of, HasPlan}
use Rattle.pv_boxes_tests.proofs.world.ran.Goals as goal

pub loop-event-init : goal.loop-event-init
loop-event-init c =
    let schedule = c.in_ok-schedule.schedule in
    let world = c.in_ok-world.world in
    let all = c.schedules_are_well_formed.ensures c.args.text.now (schedule_of schedule) c.in_ok-schedule.ensures.answer.given in
    record {
      stands = (_, c.in_ok-world.ensures.stands);
      formed =
          subst (λ items. All (IsWellFormed world.catalog) (map event_of items)) (sym c.deref-event-items.ensures.value)
          (subst (λ catalog. All (IsWellFormed catalog) (map event_of schedule.events.items)) (sym c.in_ok-world.ensures.catalog) all);
      plans =
          subst (λ items. All (HasPlan world.catalog) items) (sym c.deref-event-items.ensures.value)
          (subst (λ catalog. All (HasPlan catalog) schedule.events.items) (sym c.in_ok-world.ensures.catalog) c.in_ok-schedule.ensures.plans);
    }

pub push_lines-requires-clause-event : goal.push_lines-requires-clause-event
push_lines-requires-clause-event c =
    let items = c.deref-event-items.result.now in
    let i = c.loop-event.event-index in
    let event = c.event-item.result in
    let within : i < length (map event_of items) = simp length-map c.loop-event-test.true in
    subst (IsWellFormed c.loop-event.world.catalog) (get_or-map event_of items i event ∙ ap event_of (sym c.event-item.is))
    (All-get_or (IsWellFormed c.loop-event.world.catalog) (map event_of items) i (event_of event) within c.loop-event.invariant.formed)
