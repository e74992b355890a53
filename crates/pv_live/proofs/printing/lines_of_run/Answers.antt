-- Each event's step is one step of the run.
use Rattle.std.proofs.Common.{rules, sym, subst, arith}
use Rattle.std.proofs.lemmas.List.{take_all}
use Rattle.pv_base.specs.Catalog.{Declared}
use Rattle.pv_protocol.specs.WellFormed.{IsWellFormed}
use Rattle.pv_script.specs.ScheduleView.{HasPlan, event_of}
use Rattle.pv_live.proofs.PrintLemmas.{here, mapped-at, printed-all, printed-on, printed-start}
use Rattle.pv_live.proofs.printing.lines_of_run.Goals as goal

pub loop-event-init : goal.loop-event-init
loop-event-init c =
    printed-start c.args.catalog.now c.args.events.now c.in_ok-world.world c.new-lines.result.items c.in_ok-world.ensures.stands c.in_ok-world.ensures.catalog (search rules)

pub step-requires-clause-stands : goal.step-requires-clause-stands
step-requires-clause-stands c = (_, c.loop-event.invariant.stands)

pub step-requires-clause-plan : goal.step-requires-clause-plan
step-requires-clause-plan c =
    let events = c.args.events.now in
    let i = c.loop-event.event-index in
    let event = c.event-item.result in
    subst (λ (catalog : Declared). HasPlan catalog event) (sym c.loop-event.invariant.catalog_is)
    (subst (HasPlan c.args.catalog.now) (sym c.event-item.is) (c.requires.plans i event c.loop-event-test.true))

pub step-requires-clause-event : goal.step-requires-clause-event
step-requires-clause-event c =
    let has = c.loop-event.invariant in
    subst (λ (catalog : Declared). IsWellFormed catalog (event_of c.event-item.result)) (sym has.catalog_is)
    (mapped-at (IsWellFormed c.args.catalog.now) event_of c.args.events.now c.loop-event.event-index c.event-item.result c.requires.well_formed c.loop-event-test.true c.event-item.is)

pub loop-event-preserved : goal.loop-event-preserved
loop-event-preserved c =
    let catalog = c.args.catalog.now in
    let events = c.args.events.now in
    let has = c.loop-event.invariant in
    let i = c.loop-event.event-index in
    let event = c.event-item.result in
    let steps = c.in-Ok.ensures (here catalog events c.loop-event.world c.step.new.self i c.loop-event.lines.items c.in-Ok.more.items c.push_all.new.lines.items event has c.loop-event-test.true c.event-item.is) has.stands in
    printed-on catalog events c.loop-event.world c.step.new.self i c.loop-event.lines.items c.in-Ok.more.items c.push_all.new.lines.items event has c.loop-event-test.true c.event-item.is
    steps.0 steps.1 steps.2 c.in_ok-push_all-in-Ok.ensures

pub returns : goal.returns
returns c =
    let events = c.args.events.now in
    let i = c.loop-event.event-index in
    printed-all c.args.catalog.now events c.loop-event.world i c.loop-event.lines.items c.loop-event.invariant (take_all i events (omega (arith, c.loop-event-test.false)))
