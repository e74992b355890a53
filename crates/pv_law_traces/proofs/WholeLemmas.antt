-- What an event prints is as much as an audit asks for: one line of a request, and a report's lines of a report.
use Rattle.std.proofs.Common.{◌≡◌, ◌∙◌, ℕ, ◌+◌, Bool, Some, None, Option, All, List, [], ◌∷◌, filter, length, map, refl, sym, ap, subst}
use Rattle.std.specs.Prelude.{◌==◌}
use Rattle.std.proofs.lemmas.List.{append-nil, length-map}
use Rattle.pv_audit.specs.Printed.{ArePrinted, IsWithin}
use Rattle.pv_audit.specs.Printed as forms
use Rattle.pv_audit.specs.Traces.{AreItemLines, IsItemLine, IsReport, IsWhole}
use Rattle.pv_base.specs.Catalog.{Declared, Item}
use Rattle.pv_base.specs.declared.limits.TheConstants.{NEVER_GIVEN}
use Rattle.pv_law_step.proofs.Lists.{all-head, all-tail}
use Rattle.pv_law_step.proofs.StepCases.{if_case}
use Rattle.pv_model.specs.Events.{Event}
use Rattle.pv_model.specs.Syntax.{Program}
use Rattle.pv_protocol.specs.Arms.{Reached, attempted, calls_of, fires, reached, waits}
use Rattle.pv_protocol.specs.Attempt.{Attempt, begun, given, of_step}
use Rattle.pv_protocol.specs.Committed.{is_committed, is_open}
use Rattle.pv_protocol.specs.Here.{Here}
use Rattle.pv_protocol.specs.LineText.{words_of}
use Rattle.pv_protocol.specs.Lines.{Line, line_of}
use Rattle.pv_protocol.specs.Lock.{on_submit}
use Rattle.pv_protocol.specs.Report.{Reading, cases, locked, down, item_line, item_lines, reading_of, readings, readings_from, report_of, txns_in_order}
use Rattle.pv_protocol.specs.Run.{lines_of_transitions, transitions_of}
use Rattle.pv_protocol.specs.State.{Running, Setup, Step, submit}
use Rattle.pv_protocol.specs.Step.{site_step, step_on}
use Rattle.pv_protocol.specs.World.{World, site_at}
use Rattle.pv_protocol.specs.WorldStep.{ended, transition_of}
use Rattle.pv_report.specs.NamesOnlyItems.{NamesOnlyItems}

-- Lines that can be read are printed forms.
pub all-printed : (catalog : Declared) (ls : List Line) → All (NamesOnlyItems catalog) ls → All IsWithin ls → ArePrinted catalog (map (words_of catalog) ls) ls
all-printed catalog [] has within = forms.none
all-printed catalog (line ∷ ls) has within =
    forms.more (words_of catalog line) line (map (words_of catalog) ls) ls
    (record { is = refl; items = all-head (NamesOnlyItems catalog) line ls has; within = all-head IsWithin line ls within })
    (all-printed catalog ls (all-tail (NamesOnlyItems catalog) line ls has) (all-tail IsWithin line ls within))

module _ (setup : Setup) where
  -- ---- a request

  submit-notes : (here : Here) (program : Program) → length (on_submit here program).notes ≡ 1
  unfolding on_submit
  submit-notes here program = if_case (λ (step : Step). length step.notes ≡ 1) (here.running.next_txn == NEVER_GIVEN) (λ none. refl) (λ left. refl)

  attempted-one : (world : World) (n : ℕ) (attempt : Attempt) (left : Reached) → length attempt.lines ≡ 1 → length (attempted world n attempt left).0 ≡ 1
  attempted-one world n attempt (waits arm) one = one
  attempted-one world n attempt (fires arm) one = refl

  given-one : (world : World) (n : ℕ) (program : Program) (running : Option Running) → length (ended (given setup world n (submit program) running)).0 ≡ 1
  given-one world n program None = refl
  given-one world n program (Some running) =
      let here : Here = record { me = n; setup = setup; records = (site_at world n).records; surplus = 0; running = running } in
      let attempt = of_step n (site_step setup n (site_at world n).records running (submit program)) in
      attempted-one world n attempt (reached (calls_of attempt) (site_at world n).arm)
      (length-map (step_on here (submit program)).notes (line_of n) ∙ submit-notes here program)

  request-one : (world : World) (n : ℕ) (query : Bool) (text : List ℕ) (program : Program)
      → length (lines_of_transitions (transitions_of setup world (Event.submit n query text program))) ≡ 1
  unfolding transitions_of transition_of begun
  request-one world n query text program =
      ap length (append-nil (ended (given setup world n (submit program) (site_at world n).running)).0) ∙ given-one world n program (site_at world n).running

  -- ---- a report

  item-is : (n : ℕ) (reading : Reading) → IsItemLine n (item_line n reading)
  item-is n (cases value) = refl
  item-is n (locked holder) = refl
  item-is n (down site) = refl

  items-are : (world : World) (n : ℕ) (items : List Item) → AreItemLines n items (item_lines n (readings_from setup world n items))
  items-are world n [] = refl
  items-are world n (item ∷ items) = (item-is n (reading_of setup world n item), items-are world (n + 1) items)

  report-is : (world : World) → IsReport setup.catalog (report_of setup world)
  unfolding report_of
  report-is world = record {
    ordered = txns_in_order world.order;
    committed = txns_in_order (filter (λ placed. is_committed world placed.txn) world.order);
    open_ones = txns_in_order (filter (is_open world) world.order);
    items = item_lines 0 (readings setup world);
    is = refl;
    each = items-are world 0 setup.catalog.items;
  }

  report-lines : (world : World) → lines_of_transitions (transitions_of setup world Event.report) ≡ report_of setup world
  unfolding transitions_of transition_of begun
  report-lines world = append-nil (report_of setup world)

  -- ---- each event

  pub prints-whole : (world : World) (event : Event) → All (NamesOnlyItems setup.catalog) (lines_of_transitions (transitions_of setup world event))
      → All IsWithin (lines_of_transitions (transitions_of setup world event))
      → IsWhole setup.catalog event (map (words_of setup.catalog) (lines_of_transitions (transitions_of setup world event)))
  prints-whole world (Event.submit n query text program) has within =
      length-map (lines_of_transitions (transitions_of setup world (Event.submit n query text program))) (words_of setup.catalog) ∙ request-one world n query text program
  prints-whole world Event.report has within = (
    lines_of_transitions (transitions_of setup world Event.report),
    all-printed setup.catalog (lines_of_transitions (transitions_of setup world Event.report)) has within,
    subst (IsReport setup.catalog) (sym (report-lines world)) (report-is world),
  )
  prints-whole world event has within = tt
