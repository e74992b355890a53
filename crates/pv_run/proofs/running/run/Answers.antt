-- Each event's step is one step of the run.
use Rattle.std.proofs.Common.{◌≡◌, ◌≢◌, ◌≤◌, ◌-◌, ◌++◌, rules, arith, [], Err, Some, ℕ, suc, All, List, drop, refl, sym, ap, length, map, take, vec_len, ◌∙◌, subst, add-one}
use Rattle.std.proofs.KnownBytes.{Appends-nil}
use Rattle.std.proofs.lemmas.List.{length-map}
use Rattle.std.specs.Io.KnownBytes.{Appends}
use Rattle.pv_base.specs.Catalog.{Declared}
use Rattle.pv_io.specs.Stream.{AppendsPrefix}
use Rattle.pv_law_lines.proofs.LineItems.{lines-name-items}
use Rattle.pv_model.specs.Schedule.{significant}
use Rattle.pv_model.specs.Text.{TextLine}
use Rattle.pv_protocol.specs.Lines.{Line}
use Rattle.pv_protocol.specs.WellFormed.{IsWellFormed}
use Rattle.pv_report.specs.NamesOnlyItems.{NamesOnlyItems}
use Rattle.pv_script.specs.LineView.{line_of}
use Rattle.pv_script.specs.ScheduleView.{event_of, schedule_of}
use Rattle.pv_site.specs.SiteState.{setup_of}
use Rattle.pv_world.specs.Steps.{Steps}
use Rattle.pv_world.specs.declared.error.WorldError.{WorldError}
use Rattle.pv_run.specs.InputAnswers.{written_within}
use Rattle.pv_run.specs.Traced.{event_text, said_texts}
use Rattle.pv_run.specs.KeptDisks.{KeepsSites}
use Rattle.pv_protocol.specs.World as model
use Rattle.pv_run.proofs.KeepLemmas.{hold-count, last-is}
use Rattle.pv_run.proofs.OutputLemmas.{AppendsPrefix-front, AppendsPrefix-none, both-empty, on_any_err}
use Rattle.pv_run.proofs.RunLemmas.{IsUnderWay, All-next, course-start, drop-events_of, give_up, go_on, no_text, opens, passes, printed-by, stands-after, start, text-at-end, text-none, text_at, within-after, world_at}
use Rattle.pv_run.proofs.running.run.Goals as goal

pub loop-event-init : goal.loop-event-init
loop-event-init g c =
    let form = c.args.form in
    let input = c.args.input.now in
    let schedule = schedule_of c.args.schedule.now in
    let world = c.in_ok-world.ensures in
    let all = significant c.said_in-all.result.now in
    let count : vec_len c.args.schedule.now.events ≡ length c.args.schedule.now.events.items = search rules in
    let last = c.len.result in
    let front = length all - last in
    let writes = c.in_ok-said.ensures.writes in
    start g.W.Sink form (written_within form input schedule) (said_texts (take front all)) c.args.sink.now c.write_front.new.sink schedule c.in_ok-world.world
    (drop front all) (significant c.in_ok-said.said.now) (course-start schedule c.in_ok-world.world world.stands world.catalog world.limit)
    (opens form input schedule all last c.said_in-all.ensures (c.len.ensures ∙ count ∙ sym (length-map c.args.schedule.now.events.items event_of)))
    c.in_ok-said.ensures.rest writes.written writes.known writes.counted writes.none

pub returns-in_err-said-clause-writes : goal.returns-in_err-said-clause-writes
returns-in_err-said-clause-writes g c =
    let form = c.args.form in
    let input = c.args.input.now in
    let schedule = schedule_of c.args.schedule.now in
    let old = g.W.Sink.held c.args.sink.now in
    let new = g.W.Sink.held c.write_front.new.sink in
    let all = significant c.said_in-all.result.now in
    let count : vec_len c.args.schedule.now.events ≡ length c.args.schedule.now.events.items = search rules in
    let last = c.len.result in
    let front = said_texts (take (length all - last) all) in
    let rest = text_at form schedule (drop (length all - last) all) 0 in
    let both : written_within form input schedule ≡ front ++ rest =
    opens form input schedule all last c.said_in-all.ensures (c.len.ensures ∙ count ∙ sym (length-map c.args.schedule.now.events.items event_of)) in
    let failed = c.in_err-said.ensures.writes in
    let more : front ≢ [] → written_within form input schedule ≢ [] = λ some none. some (both-empty front rest (sym both ∙ none)).0 in
    record {
      written = search rules;
      prefix = on_any_err c.from_residual-in_err-said.result _ (subst (AppendsPrefix old new) (sym both) (AppendsPrefix-front old new front rest failed.prefix));
      known = failed.known;
      fault = search rules;
      counted = failed.counted;
      none = λ none. failed.none (both-empty front rest (sym both ∙ none)).0;
      some = search (rules, more, failed.some);
    }

pub step-requires-clause-event : goal.step-requires-clause-event
step-requires-clause-event g c =
    let schedule = schedule_of c.args.schedule.now in
    let events = c.deref-event-items.result.now in
    let i = c.loop-event.event-index in
    let event = c.event-item.result in
    let split = drop-events_of events c.args.schedule.now.events.items c.deref-event-items.ensures.value i event c.loop-event-test.true c.event-item.is in
    subst (λ (catalog : Declared). IsWellFormed catalog (event_of event)) (sym c.loop-event.invariant.course.catalog)
    (All-next (IsWellFormed schedule.catalog) schedule.events i (event_of event) _ c.requires.well_formed split)

pub write_event-requires : goal.write_event-requires
write_event-requires g c =
    let world = c.loop-event.world in
    let is = world_at (schedule_of c.args.schedule.now) c.loop-event.event-index in
    let event = event_of c.event-item.result in
    let steps = c.in-Ok.ensures is c.loop-event.invariant.course.stands in
    subst (λ (catalog : Declared). All (NamesOnlyItems catalog) (map line_of c.deref.result.now)) c.loop-event.invariant.course.catalog
    (subst (All (NamesOnlyItems world.catalog)) (sym (ap (map line_of) c.deref.ensures.value ∙ steps.2)) (lines-name-items (setup_of world.catalog) is event))

pub loop-event-preserved : goal.loop-event-preserved
loop-event-preserved g c =
    let form = c.args.form in
    let first = c.args.sink.now in
    let now = c.loop-event.sink in
    let said = significant c.loop-event.said.now in
    let next = c.write_event.new.sink in
    let schedule = schedule_of c.args.schedule.now in
    let events = c.deref-event-items.result.now in
    let world = c.loop-event.world in
    let new = c.step.new.self in
    let i = c.loop-event.event-index in
    let event = event_of c.event-item.result in
    let way = c.loop-event.invariant in
    let all = written_within form c.args.input.now schedule in
    let split = drop-events_of events c.args.schedule.now.events.items c.deref-event-items.ensures.value i c.event-item.result c.loop-event-test.true c.event-item.is in
    let steps = c.in-Ok.ensures (world_at schedule i) way.course.stands in
    let printed = printed-by schedule world i event way.course split (map line_of c.deref.result.now) (ap (map line_of) c.deref.ensures.value ∙ steps.2) in
    let writes = c.in_ok-said-in-Ok.ensures.writes in
    let written = subst (λ (ls : List Line). Appends (g.W.Sink.held now) (g.W.Sink.held next) (event_text form schedule.catalog said ls)) printed writes.written in
    let same = subst (λ (ls : List Line). event_text form schedule.catalog said ls ≡ [] → next ≡ now) printed writes.none in
    subst (λ (k : ℕ). IsUnderWay g.W.Sink form all first next schedule new (significant c.in_ok-said-in-Ok.said.now) k) (sym (add-one i))
    (subst (λ (left : List TextLine). IsUnderWay g.W.Sink form all first next schedule new left (suc i)) (sym c.in_ok-said-in-Ok.ensures.rest)
    (go_on g.W.Sink form all first now next schedule world said i event way split (within-after schedule world i event way.course split new steps.0 steps.1)
    new (stands-after schedule world i event way.course split new steps.0) steps.1 written writes.known writes.counted same))

pub returns-in_err-said-in-Ok-clause-writes : goal.returns-in_err-said-in-Ok-clause-writes
returns-in_err-said-in-Ok-clause-writes g c =
    let form = c.args.form in
    let first = c.args.sink.now in
    let now = c.loop-event.sink in
    let said = significant c.loop-event.said.now in
    let next = c.write_event.new.sink in
    let schedule = schedule_of c.args.schedule.now in
    let events = c.deref-event-items.result.now in
    let world = c.loop-event.world in
    let new = c.step.new.self in
    let i = c.loop-event.event-index in
    let event = event_of c.event-item.result in
    let way = c.loop-event.invariant in
    let all = written_within form c.args.input.now schedule in
    let split = drop-events_of events c.args.schedule.now.events.items c.deref-event-items.ensures.value i c.event-item.result c.loop-event-test.true c.event-item.is in
    let steps = c.in-Ok.ensures (world_at schedule i) way.course.stands in
    let printed = printed-by schedule world i event way.course split (map line_of c.deref.result.now) (ap (map line_of) c.deref.ensures.value ∙ steps.2) in
    let failed = c.in_err-said-in-Ok.ensures.writes in
    let written = subst (λ (ls : List Line). AppendsPrefix (g.W.Sink.held now) (g.W.Sink.held next) (event_text form schedule.catalog said ls)) printed failed.prefix in
    let same = subst (λ (ls : List Line). event_text form schedule.catalog said ls ≡ [] → next ≡ now) printed failed.none in
    let empty = no_text g.W.Sink form all first now schedule world said i event way split (within-after schedule world i event way.course split new steps.0 steps.1) in
    let more : event_text form schedule.catalog said (map line_of c.deref.result.now) ≢ [] → all ≢ [] =
    λ some none. some (ap (event_text form schedule.catalog said) printed ∙ empty none) in
    record {
      written = search rules;
      prefix = on_any_err c.from_residual-in_err-said-in-Ok.result _
          (give_up g.W.Sink form all first now next schedule world said i event way split (within-after schedule world i event way.course split new steps.0 steps.1) written);
      known = failed.known ∙ way.known;
      fault = search rules;
      counted = omega (arith, way.counted, failed.counted);
      none = λ none. same (empty none) ∙ (way.none none).1;
      some = search (rules, more, failed.some);
    }

pub returns-in-Err-SentLimit-clause-over : goal.returns-in-Err-SentLimit-clause-over
returns-in-Err-SentLimit-clause-over g c =
    let schedule = schedule_of c.args.schedule.now in
    let events = c.deref-event-items.result.now in
    let i = c.loop-event.event-index in
    let way = c.loop-event.invariant in
    let split = drop-events_of events c.args.schedule.now.events.items c.deref-event-items.ensures.value i c.event-item.result c.loop-event-test.true c.event-item.is in
    let steps = subst (λ (e : WorldError). Steps c.loop-event.world c.step.new.self (event_of c.event-item.result) (world_at schedule i) (Err e)) c.in-Err-SentLimit.field-0-is
    (c.in-Err-SentLimit.ensures (world_at schedule i) way.course.stands) in
    let passed = passes schedule c.loop-event.world i (event_of c.event-item.result) way.course split c.in-Err-SentLimit.total steps in
    ap (λ (total : ℕ). Some total) c.in-Err-SentLimit.total-is ∙ passed.0

pub returns-in-Err-SentLimit-clause-writes : goal.returns-in-Err-SentLimit-clause-writes
returns-in-Err-SentLimit-clause-writes g c =
    let now = g.W.Sink.held c.loop-event.sink in
    let schedule = schedule_of c.args.schedule.now in
    let events = c.deref-event-items.result.now in
    let i = c.loop-event.event-index in
    let way = c.loop-event.invariant in
    let split = drop-events_of events c.args.schedule.now.events.items c.deref-event-items.ensures.value i c.event-item.result c.loop-event-test.true c.event-item.is in
    let steps = subst (λ (e : WorldError). Steps c.loop-event.world c.step.new.self (event_of c.event-item.result) (world_at schedule i) (Err e)) c.in-Err-SentLimit.field-0-is
    (c.in-Err-SentLimit.ensures (world_at schedule i) way.course.stands) in
    let none = text-none schedule c.loop-event.world i (event_of c.event-item.result) way.course split c.args.form (significant c.loop-event.said.now) c.in-Err-SentLimit.total steps in
    record {
      written = way.whole now (subst (Appends now now) (sym none) (Appends-nil now));
      prefix = tt;
      known = way.known;
      fault = tt;
      counted = way.counted;
      none = λ none. (way.none none).1;
      some = tt;
    }

pub returns-in-Err-NoMemory-clause-writes : goal.returns-in-Err-NoMemory-clause-writes
returns-in-Err-NoMemory-clause-writes g c =
    let now = g.W.Sink.held c.loop-event.sink in
    let schedule = schedule_of c.args.schedule.now in
    let way = c.loop-event.invariant in
    record {
      written = tt;
      prefix = way.prefix now (AppendsPrefix-none now (text_at c.args.form schedule (significant c.loop-event.said.now) c.loop-event.event-index));
      known = way.known;
      fault = search rules;
      counted = way.counted;
      none = λ none. (way.none none).1;
      some = search rules;
    }

pub returns-clause-writes : goal.returns-clause-writes
returns-clause-writes g c =
    let now = g.W.Sink.held c.loop-event.sink in
    let schedule = schedule_of c.args.schedule.now in
    let items = c.args.schedule.now.events.items in
    let same = ap length c.deref-event-items.ensures.value in
    let end : length items ≤ c.loop-event.event-index = omega (arith, same, c.loop-event-test.false) in
    let way = c.loop-event.invariant in
    let none = text-at-end c.args.form schedule (significant c.loop-event.said.now) items c.loop-event.event-index refl end in
    record {
      written = way.whole now (subst (Appends now now) (sym none) (Appends-nil now));
      prefix = tt;
      known = way.known;
      fault = tt;
      counted = way.counted;
      none = λ none. (way.none none).1;
      some = tt;
    }

-- The disks that the world leaves are those of the last world's sites.
pub close-requires : goal.close-requires
close-requires g c = (world_at (schedule_of c.args.schedule.now) c.loop-event.event-index, c.loop-event.invariant.course.stands)

pub keep_all-requires : goal.keep_all-requires
keep_all-requires g c =
    let is = world_at (schedule_of c.args.schedule.now) c.loop-event.event-index in
    let stands = c.loop-event.invariant.course.stands in
    omega (arith, hold-count c.close.result.items is.sites (c.close.ensures is stands), stands.stands.count, stands.range.sites)

pub returns-clause-kept : goal.returns-clause-kept
returns-clause-kept g c = λ done.
    let schedule = schedule_of c.args.schedule.now in
    let items = c.args.schedule.now.events.items in
    let same = ap length c.deref-event-items.ensures.value in
    let end : length items ≤ c.loop-event.event-index = omega (arith, same, c.loop-event-test.false) in
    let is = world_at schedule c.loop-event.event-index in
    subst (λ (world : model.World). KeepsSites g.B.Bay.model c.args.bay.now c.keep_all.new.bay world.sites) (last-is schedule items c.loop-event.event-index refl end)
    (c.keep_all.ensures is.sites (c.close.ensures is c.loop-event.invariant.course.stands))
