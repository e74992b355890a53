-- Each event's step is one step of the run.
use Rattle.std.proofs.Common.{◌≡◌, ◌≤◌, ◌+◌, ◌++◌, arith, refl, Err, Some, ℕ, List, [], rules, sym, ap, length, map, ◌∙◌, subst, add-one}
use Rattle.std.proofs.lemmas.List.{append-nil, map-append}
use Rattle.pv_base.specs.Catalog.{Declared}
use Rattle.pv_law_lines.proofs.LineItems.{lines-name-items}
use Rattle.pv_protocol.specs.Limit.{Output}
use Rattle.pv_protocol.specs.Lines.{Line}
use Rattle.pv_protocol.specs.WellFormed.{IsWellFormed}
use Rattle.pv_script.specs.LineView.{line_of}
use Rattle.pv_script.specs.declared.line.Line as code
use Rattle.pv_script.specs.ScheduleView.{event_of, schedule_of}
use Rattle.pv_site.specs.SiteState.{setup_of}
use Rattle.pv_world.specs.Steps.{Steps}
use Rattle.pv_world.specs.declared.error.WorldError.{WorldError}
use Rattle.pv_run.proofs.RunLemmas.{HasCollected, All-next, collect-start, collect_on, drop-events_of, left-at-end, lines, passes, printed-by, stands-after, within-after, world_at}
use Rattle.pv_run.proofs.printed.run_to_lines.Goals as goal

pub loop-event-init : goal.loop-event-init
loop-event-init c =
    let empty : c.new-lines.result.items ≡ [] = search rules in
    subst (λ (ls : List code.Line). HasCollected (schedule_of c.args.schedule.now) c.in_ok-world.world 0 (map line_of ls)) (sym empty)
    (collect-start (schedule_of c.args.schedule.now) c.in_ok-world.world c.in_ok-world.ensures.stands c.in_ok-world.ensures.catalog c.in_ok-world.ensures.limit)

pub step-requires-clause-event : goal.step-requires-clause-event
step-requires-clause-event c =
    let schedule = schedule_of c.args.schedule.now in
    let events = c.deref-event-items.result.now in
    let i = c.loop-event.event-index in
    let event = c.event-item.result in
    let split = drop-events_of events c.args.schedule.now.events.items c.deref-event-items.ensures.value i event c.loop-event-test.true c.event-item.is in
    subst (λ (catalog : Declared). IsWellFormed catalog (event_of event)) (sym c.loop-event.invariant.course.catalog)
    (All-next (IsWellFormed schedule.catalog) schedule.events i (event_of event) _ c.requires.well_formed split)

pub loop-event-preserved : goal.loop-event-preserved
loop-event-preserved c =
    let schedule = schedule_of c.args.schedule.now in
    let events = c.deref-event-items.result.now in
    let world = c.loop-event.world in
    let new = c.step.new.self in
    let i = c.loop-event.event-index in
    let event = event_of c.event-item.result in
    let before = c.loop-event.lines.items in
    let more = c.in-Ok.more.items in
    let collected = c.loop-event.invariant in
    let way = collected.course in
    let split = drop-events_of events c.args.schedule.now.events.items c.deref-event-items.ensures.value i c.event-item.result c.loop-event-test.true c.event-item.is in
    let steps = c.in-Ok.ensures (world_at schedule i) way.stands in
    let printed = printed-by schedule world i event way split (map line_of more) steps.2 in
    let after = c.push_all.new.lines.items in
    let pushed : after ≡ before ++ more = c.in_ok-push_all-in-Ok.ensures in
    let all = ap (map line_of) pushed ∙ map-append line_of before more ∙ ap (λ (ls : List Line). map line_of before ++ ls) printed in
    subst (λ (ls : List Line). HasCollected schedule new (i + 1) ls) (sym all)
    (subst (λ (k : ℕ). HasCollected schedule new k (map line_of before ++ lines schedule world i event way split)) (sym (add-one i))
    (collect_on schedule world i (map line_of before) event collected split (within-after schedule world i event way split new steps.0 steps.1) new
    (stands-after schedule world i event way split new steps.0) steps.1 (lines-name-items (setup_of schedule.catalog) (world_at schedule i) event)))

pub returns-in-Err-SentLimit-clause-lines : goal.returns-in-Err-SentLimit-clause-lines
returns-in-Err-SentLimit-clause-lines c =
    let schedule = schedule_of c.args.schedule.now in
    let events = c.deref-event-items.result.now in
    let i = c.loop-event.event-index in
    let collected = c.loop-event.invariant in
    let so_far = map line_of c.loop-event.lines.items in
    let split = drop-events_of events c.args.schedule.now.events.items c.deref-event-items.ensures.value i c.event-item.result c.loop-event-test.true c.event-item.is in
    let steps = subst (λ (e : WorldError). Steps c.loop-event.world c.step.new.self (event_of c.event-item.result) (world_at schedule i) (Err e)) c.in-Err-SentLimit.field-0-is
    (c.in-Err-SentLimit.ensures (world_at schedule i) collected.course.stands) in
    let none = (passes schedule c.loop-event.world i (event_of c.event-item.result) collected.course split c.in-Err-SentLimit.total steps).1 in
    sym (append-nil so_far) ∙ ap (λ (ls : List Line). so_far ++ ls) (sym none) ∙ collected.whole

pub returns-in-Err-SentLimit-clause-over : goal.returns-in-Err-SentLimit-clause-over
returns-in-Err-SentLimit-clause-over c =
    let schedule = schedule_of c.args.schedule.now in
    let events = c.deref-event-items.result.now in
    let i = c.loop-event.event-index in
    let way = c.loop-event.invariant.course in
    let split = drop-events_of events c.args.schedule.now.events.items c.deref-event-items.ensures.value i c.event-item.result c.loop-event-test.true c.event-item.is in
    let steps = subst (λ (e : WorldError). Steps c.loop-event.world c.step.new.self (event_of c.event-item.result) (world_at schedule i) (Err e)) c.in-Err-SentLimit.field-0-is
    (c.in-Err-SentLimit.ensures (world_at schedule i) way.stands) in
    let passed = passes schedule c.loop-event.world i (event_of c.event-item.result) way split c.in-Err-SentLimit.total steps in
    ap (λ (total : ℕ). Some total) c.in-Err-SentLimit.total-is ∙ passed.0

pub returns-in-Err-SentLimit-clause-items : goal.returns-in-Err-SentLimit-clause-items
returns-in-Err-SentLimit-clause-items c = c.loop-event.invariant.items

pub returns-clause-lines : goal.returns-clause-lines
returns-clause-lines c =
    let schedule = schedule_of c.args.schedule.now in
    let items = c.args.schedule.now.events.items in
    let same = ap length c.deref-event-items.ensures.value in
    let end : length items ≤ c.loop-event.event-index = omega (arith, same, c.loop-event-test.false) in
    let so_far = map line_of c.loop-event.lines.items in
    let none = ap (λ (o : Output). o.lines) (left-at-end schedule items c.loop-event.event-index refl end) in
    sym (append-nil so_far) ∙ ap (λ (ls : List Line). so_far ++ ls) (sym none) ∙ c.loop-event.invariant.whole

pub returns-clause-over : goal.returns-clause-over
returns-clause-over c =
    let schedule = schedule_of c.args.schedule.now in
    let items = c.args.schedule.now.events.items in
    let same = ap length c.deref-event-items.ensures.value in
    let end : length items ≤ c.loop-event.event-index = omega (arith, same, c.loop-event-test.false) in
    sym (ap (λ (o : Output). o.over) (left-at-end schedule items c.loop-event.event-index refl end)) ∙ c.loop-event.invariant.course.over

pub returns-clause-items : goal.returns-clause-items
returns-clause-items c = c.loop-event.invariant.items
