use Rattle.std.proofs.Common.{◌++◌, ◌∙◌, ◌+◌, List, append-nil, append_assoc, drop, map, ap, sym, subst, arith}
use Rattle.std.specs.Prelude.{flat_map}
use Rattle.pv_law_histories.specs.Merge as model
use Rattle.pv_law_histories.specs.Merge.{events_at, lines_at}
use Rattle.pv_merge.proofs.HistoryLemmas.{map-end, map-first}
use Rattle.pv_merge.proofs.NumberLemmas.{at-place}
use Rattle.pv_merge.proofs.run.told.Goals as goal
use Rattle.pv_merge.specs.Moments.{IsPlanned, IsSentAmong, moment_of}
use Rattle.pv_merge.specs.declared.moment.Moment.{Moment}
use Rattle.pv_model.specs.Events as law
use Rattle.pv_protocol.specs.Lines.{Line}
use Rattle.pv_script.specs.LineView.{line_of}
use Rattle.pv_script.specs.ScheduleView.{event_of}

pub push_events-requires-clause-there : goal.push_events-requires-clause-there
push_events-requires-clause-there c =
    let moments = c.args.moments.now in
    let moment = c.moment-item.result in
    subst (λ (one : Moment). IsSentAmong (map moment_of moments) (moment_of one).entry.intake) (sym c.moment-item.is)
    (at-place (λ (one : model.Moment). IsSentAmong (map moment_of moments) one.entry.intake) moments c.loop-moment.moment-index moment c.requires.there c.loop-moment-test.true)

pub loop-moment-preserved : goal.loop-moment-preserved
loop-moment-preserved c =
    let moments = c.args.moments.now in
    let all = map moment_of moments in
    let i = c.loop-moment.moment-index in
    let moment = c.moment-item.result in
    let events = map event_of c.loop-moment.events.items in
    let lines = map line_of c.loop-moment.lines.items in
    let later = drop (i + 1) all in
    let first = map-first moment_of moments i moment c.loop-moment-test.true c.moment-item.is in
    record {
      events = ap (λ (made : List law.Event). made ++ flat_map (events_at all) later) c.in_ok-push_events.ensures.events
          ∙ append_assoc events (events_at all (moment_of moment)) (flat_map (events_at all) later)
          ∙ ap (λ (ms : List model.Moment). events ++ flat_map (events_at all) ms) (sym first)
          ∙ c.loop-moment.invariant.events;
      lines = ap (λ (made : List Line). made ++ flat_map lines_at later) c.in_ok-push_lines.ensures
          ∙ append_assoc lines (lines_at (moment_of moment)) (flat_map lines_at later)
          ∙ ap (λ (ms : List model.Moment). lines ++ flat_map lines_at ms) (sym first)
          ∙ c.loop-moment.invariant.lines;
      plans = λ catalog planned. c.in_ok-push_events.ensures.plans catalog
          (subst (λ (one : Moment). IsPlanned catalog one.entry.now.input) (sym c.moment-item.is) (planned i moment c.loop-moment-test.true))
          (c.loop-moment.invariant.plans catalog planned);
    }

pub returns : goal.returns
returns c =
    let all = map moment_of c.args.moments.now in
    let events = map event_of c.loop-moment.events.items in
    let lines = map line_of c.loop-moment.lines.items in
    let none = map-end moment_of c.args.moments.now c.loop-moment.moment-index (omega (arith, c.loop-moment-test.false)) in
    record {
      events = sym (append-nil events) ∙ ap (λ (ms : List model.Moment). events ++ flat_map (events_at all) ms) (sym none) ∙ c.loop-moment.invariant.events;
      lines = sym (append-nil lines) ∙ ap (λ (ms : List model.Moment). lines ++ flat_map lines_at ms) (sym none) ∙ c.loop-moment.invariant.lines;
      plans = c.loop-moment.invariant.plans;
    }
