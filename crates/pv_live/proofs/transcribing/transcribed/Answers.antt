-- The events are those of the one merge, and the lines those of their run.
use Rattle.std.proofs.Common.{◌≡◌, ◌++◌, ◌∙◌, ℕ, Vec, All, map, ap, sym, subst}
use Rattle.std.specs.Prelude.{codes}
use Rattle.std.specs.declared.alloc.Global.{Global}
use Rattle.std.proofs.lemmas.List.Elements.{All-same}
use Rattle.std.proofs.lemmas.Result.{IfOk-weaker}
use Rattle.pv_law_histories.specs.Merge.{events_of_merge, merge}
use Rattle.pv_merge.specs.Moments.{histories_of}
use Rattle.pv_protocol.specs.LineText.{text_of}
use Rattle.pv_protocol.specs.Run.{printed}
use Rattle.pv_protocol.specs.WellFormed.{IsWellFormed}
use Rattle.pv_report.specs.NamesOnlyItems.{NamesOnlyItems}
use Rattle.pv_script.specs.LineView.{line_of}
use Rattle.pv_script.specs.ScheduleView.{HasPlan, event_of}
use Rattle.pv_site.specs.SiteState.{setup_of}
use Rattle.pv_transcript.specs.Transcript.{clients_part, schedule_part, transcript}
use Rattle.pv_live.proofs.PrintLemmas.{printed-fine, reports-well}
use Rattle.pv_live.specs.Told.{heard_of}
use Rattle.pv_live.proofs.transcribing.transcribed.Goals as goal

pub lines_of_run-requires : goal.lines_of_run-requires
lines_of_run-requires c =
    let catalog = c.args.script.now.catalog in
    let histories = histories_of c.args.histories.now in
    let moments = merge histories in
    let merged = c.histories_have_one_merge.ensures.there histories c.requires.fit.rising in
    let same = ap (map event_of) c.deref.ensures.value ∙ c.in_ok-events.ensures.events moments merged in
    record {
      well_formed = subst (All (IsWellFormed catalog)) (sym same)
          (reports-well catalog (events_of_merge moments)
          (c.merged_events_are_well_formed.ensures (setup_of catalog) histories moments c.requires.fit merged c.requires.done));
      plans = subst (All (HasPlan catalog)) (sym c.deref.ensures.value) c.in_ok-events.ensures.plans;
    }

pub text_of_parts-requires-clause-lines : goal.text_of_parts-requires-clause-lines
text_of_parts-requires-clause-lines c =
    let setup = setup_of c.args.script.now.catalog in
    All-same (NamesOnlyItems c.args.script.now.catalog) (map line_of c.deref-3.result.now) (printed setup (map event_of c.deref.result.now))
    (ap (map line_of) c.deref-3.ensures.value ∙ c.in_ok-lines.ensures) (printed-fine setup (map event_of c.deref.result.now))

pub returns : goal.returns
returns c = λ moments is.
    let catalog = c.args.script.now.catalog in
    let setup = setup_of catalog in
    let heard = heard_of c.args.script.now.clients.items c.args.told.now in
    let events = c.in_ok-events.ensures.events moments is in
    let given : map event_of c.deref-2.result.now ≡ _ = ap (map event_of) c.deref-2.ensures.value ∙ events in
    let run : map event_of c.deref.result.now ≡ _ = ap (map event_of) c.deref.ensures.value ∙ events in
    let lines = ap (map line_of) c.deref-3.ensures.value ∙ c.in_ok-lines.ensures ∙ ap (printed setup) run in
    IfOk-weaker c.text_of_parts.result
    (λ (text : Vec ℕ Global). text.items ≡ schedule_part catalog (map event_of c.deref-2.result.now) ++ (clients_part catalog heard ++ (codes "answers\n" ++ text_of catalog (map line_of c.deref-3.result.now))))
    (λ (text : Vec ℕ Global). text.items ≡ transcript catalog setup (events_of_merge moments) heard)
    (λ text so. so ∙ (λ i. schedule_part catalog (given i) ++ (clients_part catalog heard ++ (codes "answers\n" ++ text_of catalog (lines i))))) c.text_of_parts.ensures
