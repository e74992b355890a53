-- The world stands for the one that opens, and each event is one of its sites.
use Rattle.std.proofs.Common.{◌<◌, length, map, sym, ap, subst, ◌∙◌}
use Rattle.std.specs.Prelude.{All}
use Rattle.std.proofs.Math.ListN.{length-map, get_or-map}
use Rattle.std.proofs.lemmas.List.Elements.{All-get_or}
use Rattle.pv_protocol.specs.WellFormed.{IsWellFormed}
use Rattle.pv_script.specs.ScheduleView.{event_of, HasPlan}
use Rattle.pv_cluster_tests.proofs.world.ran.Goals as goal

pub loop-event-init : goal.loop-event-init
loop-event-init c =
    let events = c.args.events.now in
    let world = c.in_ok-world.world in
    record {
      stands = (_, c.in_ok-world.ensures.stands);
      formed = subst (λ catalog. All (IsWellFormed catalog) (map event_of events)) (sym c.in_ok-world.ensures.catalog) c.requires.formed;
      plans = subst (λ catalog. All (HasPlan catalog) events) (sym c.in_ok-world.ensures.catalog) c.requires.plans;
    }

pub push_lines-requires-clause-event : goal.push_lines-requires-clause-event
push_lines-requires-clause-event c =
    let items = c.args.events.now in
    let i = c.loop-event.event-index in
    let event = c.event-item.result in
    let within : i < length (map event_of items) = simp length-map c.loop-event-test.true in
    subst (IsWellFormed c.loop-event.world.catalog) (get_or-map event_of items i event ∙ ap event_of (sym c.event-item.is))
    (All-get_or (IsWellFormed c.loop-event.world.catalog) (map event_of items) i (event_of event) within c.loop-event.invariant.formed)
