-- The text of a run's trace is that trace, where each of its events prints what an audit can read.
use Rattle.std.proofs.Common.{◌≡◌, ◌∙◌, inl, inr, ℕ, true, Some, All, List, [], ◌∷◌, ◌++◌, map, refl, sym, ap, subst, append_assoc}
use Rattle.std.specs.List.{enumerate_from}
use Rattle.std.proofs.lemmas.Bool.{false≢true}
use Rattle.std.proofs.lemmas.List.Elements.{All-map, All-weaker, filter_passes}
use Rattle.std.proofs.lemmas.List.Concat.{flat_map-append}
use Rattle.std.proofs.lemmas.Option.{none-some}
use Rattle.pv_audit.specs.Entries.{Entry, said}
use Rattle.pv_audit.specs.Printed.{ArePrinted, IsWithin}
use Rattle.pv_audit.specs.Traces.{AreParts, IsTrace, IsWhole}
use Rattle.pv_audit.specs.Traces as trace
use Rattle.pv_base.specs.Catalog.{Declared}
use Rattle.pv_law_lines.proofs.LineItems.{lines-name-items}
use Rattle.pv_law_requests.specs.RunTraces.{parts_from, run_trace}
use Rattle.pv_law_schedules.proofs.OneEventLemmas.{not-both, one-declared, one-event}
use Rattle.pv_law_schedules.proofs.SomeScheduleLemmas.{keeps-script}
use Rattle.pv_law_step.proofs.Lists.{all-head, all-tail}
use Rattle.pv_law_traces.specs.Bare.{bare}
use Rattle.pv_law_traces.proofs.SaysLemmas.{declares-bare, event-bare}
use Rattle.pv_law_traces.proofs.WholeLemmas.{all-printed, prints-whole}
use Rattle.pv_law_transcript.proofs.MergedLemmas.{all-back, all-front}
use Rattle.pv_law_traces.proofs.TextEntries.{IsPrintedEntry, entries_in, is_text, plain-entries, printed-front, said-first}
use Rattle.pv_model.specs.Events.{Event, Schedule}
use Rattle.pv_model.specs.LineCauses.{Before, at_first, declared_by}
use Rattle.pv_model.specs.LineForms.{most_bytes, scheduled}
use Rattle.pv_model.specs.Schedule.{AreLines, Declares, IsSchedule, none, declaration, event, significant, with_event}
use Rattle.pv_model.specs.Text.{IsText, TextLine, is_significant, lines, numbered}
use Rattle.pv_protocol.specs.LineText.{text_of, words_of}
use Rattle.pv_protocol.specs.Lines.{Line}
use Rattle.pv_protocol.specs.Run.{lines_of_transitions, run, transitions_of, world_after}
use Rattle.pv_protocol.specs.Run.{printed as printed_by}
use Rattle.pv_protocol.specs.State.{Setup}
use Rattle.pv_protocol.specs.World.{World, opening}
use Rattle.pv_protocol.specs.WorldStep.{Transition}
use Rattle.pv_report.specs.NamesOnlyItems.{NamesOnlyItems}
use Rattle.pv_run.specs.Traced.{IsTraced, IsTracedFrom, said_text}
use Rattle.pv_run.specs.Traced as traced
use Rattle.pv_site.specs.SiteState.{setup_of}

-- ---- what is declared

-- Behind an event nothing of the catalog is declared.
record Stays (sites : ℕ) (before after : Before) : Type 0 where
  catalog : declared_by before ≡ declared_by after
  begun : after.begun ≡ true
  said : after.sites ≡ Some sites

declared-stays : (before after : Before) (line : TextLine) (sites : ℕ) → before.sites ≡ Some sites → before.begun ≡ true → Declares before line after → Stays sites before after
declared-stays before after line sites told begun (inl first) = absurd (none-some sites (sym first.first ∙ told))
declared-stays before after line sites told begun (inr (inl journal)) = absurd (false≢true (sym journal.early ∙ begun))
declared-stays before after line sites told begun (inr (inr (inl item))) = absurd (false≢true (sym item.early ∙ begun))
declared-stays before after line sites told begun (inr (inr (inr (inl plan)))) = absurd (false≢true (sym plan.early ∙ begun))
declared-stays before after line sites told begun (inr (inr (inr (inr (inl client))))) =
    subst (Stays sites before) (sym client.same) (record { catalog = refl; begun = refl; said = told })
declared-stays before after line sites told begun (inr (inr (inr (inr (inr (inl request)))))) =
    subst (Stays sites before) (sym request.same) (record { catalog = refl; begun = begun; said = told })
declared-stays before after line sites told begun (inr (inr (inr (inr (inr (inr peek)))))) =
    subst (Stays sites before) (sym peek.same) (record { catalog = refl; begun = begun; said = told })

catalog-stays : {before last : Before} {ls : List TextLine} {events : List Event} → AreLines before ls events last → (sites : ℕ)
    → before.sites ≡ Some sites → before.begun ≡ true → declared_by before ≡ declared_by last
catalog-stays (none before) sites told begun = refl
catalog-stays (declaration before after last line ls events declares more) sites told begun =
    let stays = declared-stays before after line sites told begun declares in
    stays.catalog ∙ catalog-stays more sites stays.said stays.begun
catalog-stays (event before last line ls e events is more) sites told begun = catalog-stays more sites told refl

-- ---- a line of a schedule is text

declares-text : (before after : Before) (line : TextLine) → Declares before line after → IsText (most_bytes before.script) line
declares-text before after line (inl x) = x.text
declares-text before after line (inr (inl x)) = x.text
declares-text before after line (inr (inr (inl x))) = x.text
declares-text before after line (inr (inr (inr (inl x)))) = x.text
declares-text before after line (inr (inr (inr (inr (inl x))))) = x.text
declares-text before after line (inr (inr (inr (inr (inr (inl x)))))) = x.text
declares-text before after line (inr (inr (inr (inr (inr (inr x)))))) = x.text

-- ---- all of it

no-lines : lines [] ≡ []
unfolding lines
no-lines = refl

-- Each line counts.
abbrev AllCount : List TextLine → Type 0
AllCount ls = All (λ line. is_significant line ≡ true) ls

-- What lines print as is text, where they name items of the catalog alone, and no line of a schedule.
module _ (setup : Setup) (text_line : (line : Line) → NamesOnlyItems setup.catalog line → is_text (words_of setup.catalog line) ≡ true)
    (line_entry : (line : Line) → IsPrintedEntry setup.catalog line) where
  count-head : (line : TextLine) (ls : List TextLine) → AllCount (line ∷ ls) → is_significant line ≡ true
  count-head line ls all = all-head (λ (line : TextLine). is_significant line ≡ true) line ls all

  count-tail : (line : TextLine) (ls : List TextLine) → AllCount (line ∷ ls) → AllCount ls
  count-tail line ls all = all-tail (λ (line : TextLine). is_significant line ≡ true) line ls all

  parts-are : {world : World} {before last : Before} {ls : List TextLine} {text : List ℕ} {events : List Event} → IsTracedFrom setup world before ls text
      → AreLines before ls events last → AllCount ls → before.script ≡ scheduled → setup.catalog ≡ declared_by last → All IsWithin (lines_of_transitions (run setup world events))
      → AreParts before (entries_in (lines text)) (parts_from setup world events) last
  parts-are (traced.none world before) (none same) counted kind catalog whole = subst (λ (l : List TextLine). AreParts before (entries_in l) [] before) (sym no-lines) (trace.none before)
  parts-are (traced.declaration world before after line ls text declares more) (declaration same next last other rest events also lines_more) counted kind catalog whole =
      let one : next ≡ after = one-declared also declares in
      let behind : AreLines after ls events last = subst (λ (b : Before). AreLines b ls events last) one lines_more in
      subst (λ (l : List Entry). AreParts before l (parts_from setup world events) last)
      (sym (said-first (most_bytes before.script) line text (declares-text before after line declares) (count-head line ls counted)))
      (trace.declaration before after last (bare line) (entries_in (lines text)) (parts_from setup world events) (declares-bare line before after kind declares)
      (parts-are more behind (count-tail line ls counted) (keeps-script before after line declares ∙ kind) catalog whole))
  parts-are (traced.declaration world before after line ls text declares more) (event same last other rest e events is lines_more) counted kind catalog whole = absurd (not-both is declares)
  parts-are (traced.event world before line e ls text is more) (declaration same next last other rest events declares lines_more) counted kind catalog whole = absurd (not-both is declares)
  parts-are (traced.event world before line e ls text is more) (event same last other rest f events also lines_more) counted kind catalog whole =
      let one : f ≡ e = one-event also is in
      let now = transitions_of setup world e in
      let printed_lines = lines_of_transitions now in
      let has = lines-name-items setup world e in
      let here : setup.catalog ≡ declared_by before = catalog ∙ sym (catalog-stays lines_more is.sites is.said refl) in
      let next = world_after world now in
      let later = lines_of_transitions (run setup next events) in
      let known : All IsWithin (printed_lines ++ later) =
      subst (All IsWithin) (flat_map-append (λ (transition : Transition). transition.lines) now (run setup next events))
      (subst (λ (x : Event). All IsWithin (lines_of_transitions (run setup world (x ∷ events)))) one whole) in
      let within : All IsWithin printed_lines = all-front IsWithin printed_lines later known in
      let texts = map (words_of setup.catalog) printed_lines in
      let behind : AreParts (with_event before) (entries_in (lines text)) (parts_from setup (world_after world now) events) last =
      parts-are more lines_more (count-tail line ls counted) kind catalog (all-back IsWithin printed_lines later known) in
      let said_here = said-first (most_bytes before.script) line (text_of setup.catalog printed_lines ++ text) is.text (count-head line ls counted) in
      let texts_are =
      All-weaker (NamesOnlyItems setup.catalog) (λ (line : Line). is_text (words_of setup.catalog line) ≡ true) text_line printed_lines has in
      let front = printed-front setup.catalog printed_lines text texts_are line_entry in
      let split = append_assoc (said_text line) (text_of setup.catalog printed_lines) text in
      subst (λ (x : Event). AreParts before (entries_in (lines ((said_text line ++ text_of setup.catalog printed_lines) ++ text))) (parts_from setup world (x ∷ events)) last) (sym one)
      (subst (λ (l : List Entry). AreParts before l (parts_from setup world (e ∷ events)) last)
      (sym (ap (λ (t : List ℕ). entries_in (lines t)) split ∙ said_here ∙ ap (λ (l : List Entry). said (bare line) ∷ l) front))
      (trace.event before last (bare line) texts (entries_in (lines text)) e printed_lines (parts_from setup (world_after world now) events) (event-bare line before e is)
      (subst (λ (c : Declared). IsWhole c e texts) here (prints-whole setup world e has within))
      (subst (λ (c : Declared). ArePrinted c texts printed_lines) here (all-printed setup.catalog printed_lines has within)) behind))

-- ---- the lines of a schedule count

lines-count : (text : List ℕ) → AllCount (significant text)
unfolding numbered
lines-count text =
    All-map (λ (line : TextLine). is_significant line ≡ true) (λ (line : ℕ × TextLine). line.1) (numbered text)
    (filter_passes (λ (line : ℕ × TextLine). is_significant line.1) (enumerate_from 1 (lines text)))

pub trace-read : (input text : List ℕ) (schedule : Schedule)
    → ((line : Line) → NamesOnlyItems schedule.catalog line → is_text (words_of schedule.catalog line) ≡ true) → ((line : Line) → IsPrintedEntry schedule.catalog line)
    → IsSchedule input schedule → IsTraced (setup_of schedule.catalog) input text
    → All IsWithin (printed_by (setup_of schedule.catalog) schedule.events) → IsTrace text (run_trace (setup_of schedule.catalog) schedule.events)
unfolding printed_by
trace-read input text schedule text_line line_entry is traced whole =
    let setup = setup_of schedule.catalog in
    record {
      last = is.last;
      are =
          subst (λ (l : List Entry). AreParts (at_first scheduled) l (parts_from setup (opening setup) schedule.events) is.last) (sym (plain-entries text))
          (parts-are setup text_line line_entry traced is.are (lines-count input) refl is.catalog whole);
      sites = is.sites;
      said = is.said;
      catalog = is.catalog;
    }
