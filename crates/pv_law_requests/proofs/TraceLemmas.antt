-- The reports of a run's trace are right: each is that of a world of the run, behind the requests before it.
use Rattle.std.proofs.Common.{◌≡◌, ℕ, zero, suc, Some, None, Option, List, [], ◌∷◌, ◌++◌, filter, append_assoc, refl, sym, ap, ap₂, subst, ◌∙◌}
use Rattle.std.specs.Prelude.{All}
use Rattle.std.specs.List.{Contains}
use Rattle.std.proofs.lemmas.List.{append-nil}
use Rattle.std.proofs.lemmas.List.Elements.{All-append, All-cons, All-nil}
use Rattle.pv_audit.specs.Reports.{begun_by, report_in, reports, reports_after}
use Rattle.pv_base.proofs.ContainsLemmas.{Contains-behind}
use Rattle.pv_law_acts.specs.Acts.{Acts}
use Rattle.pv_law_agreement.proofs.RunLemmas.{all-agree}
use Rattle.pv_law_answers.proofs.OrderLemmas.{committed-fit}
use Rattle.pv_law_answers.proofs.ReportLemmas.{report-serial}
use Rattle.pv_law_answers.specs.Orders.{committed_in}
use Rattle.pv_law_audits.proofs.WorldLemmas.{world-right}
use Rattle.pv_law_audits.specs.RightReports.{AreRight, IsOfRequests, IsRight, ShowSerialValues, told_in}
use Rattle.pv_law_events.proofs.RunActs.{AreKnown, run-known}
use Rattle.pv_law_outcomes.proofs.DecidedLemmas.{always-settled}
use Rattle.pv_law_requests.proofs.RequestLemmas.{all-of-requests, known-acts, run-goes}
use Rattle.pv_law_requests.specs.Requests.{OrdersAreOfRequests, begun_in}
use Rattle.pv_law_requests.specs.RunTraces.{parts_from, run_trace}
use Rattle.pv_law_world.proofs.AppendLemmas.{world_after-append}
use Rattle.pv_law_world.proofs.TransitionLemmas.{run-transitions}
use Rattle.pv_model.specs.Events.{Event, deliver}
use Rattle.pv_model.specs.Serial.{Ordered}
use Rattle.pv_protocol.specs.Attempt.{begun}
use Rattle.pv_protocol.specs.Committed.{is_open}
use Rattle.pv_protocol.specs.Lines.{Line}
use Rattle.pv_protocol.specs.Pump.{deliveries, enough, next_fresh, with_fresh}
use Rattle.pv_protocol.specs.Report.{item_lines, readings, report_of, txns_in_order}
use Rattle.pv_protocol.specs.Run.{lines_of_transitions, run, transitions_of, world_after}
use Rattle.pv_protocol.specs.State.{Setup}
use Rattle.pv_protocol.specs.WellFormed.{IsWellFormed}
use Rattle.pv_protocol.specs.World.{World, opening}
use Rattle.pv_protocol.specs.WorldStep.{Transition, transition_of}

begun-append : (earlier later : List Transition) → begun_in (earlier ++ later) ≡ begun_in earlier ++ begun_in later
begun-append [] later = refl
begun-append (transition ∷ earlier) later =
    let here = begun_by transition.event transition.lines in
    ap (λ (rest : List Ordered). here ++ rest) (begun-append earlier later) ∙ sym (append_assoc here (begun_in earlier) (begun_in later))

module _ (setup : Setup) where
  -- No delivery begins a transaction by a request.

  one-unasked : (world : World) (number : ℕ) (later : List Transition) → begun_in later ≡ [] → begun_in (transition_of setup world (deliver number) ∷ later) ≡ []
  unfolding transition_of
  one-unasked world number later none = none

  fresh-unasked : (more : ℕ) → ((after : World) → begun_in (deliveries more setup after) ≡ []) → (world : World) (next : Option ℕ)
      → begun_in (with_fresh next (λ n. let transition = transition_of setup world (deliver n) in transition ∷ deliveries more setup transition.world)) ≡ []
  fresh-unasked more rest world None = refl
  fresh-unasked more rest world (Some n) =
      let after = (transition_of setup world (deliver n)).world in one-unasked world n (deliveries more setup after) (rest after)

  deliveries-unasked : (more : ℕ) (world : World) → begun_in (deliveries more setup world) ≡ []
  deliveries-unasked zero world = refl
  deliveries-unasked (suc more) world = fresh-unasked more (λ after. deliveries-unasked more after) world (next_fresh world)

  -- What an event began, its lines in the trace say.

  one-begun : (world : World) (event : Event)
      → begun_by event (lines_of_transitions (transition_of setup world event ∷ [])) ≡ begun_in (transition_of setup world event ∷ [])
  unfolding transition_of
  one-begun world event =
      let lines = (transition_of setup world event).lines in ap (begun_by event) (append-nil lines) ∙ sym (append-nil (begun_by event lines))

  event-begun : (world : World) (event : Event) → begun_by event (lines_of_transitions (transitions_of setup world event)) ≡ begun_in (transitions_of setup world event)
  unfolding transitions_of
  event-begun world (Event.pump None) = sym (deliveries-unasked (enough world) world)
  event-begun world (Event.pump (Some most)) = sym (deliveries-unasked most world)
  event-begun world event = one-begun world event

  -- A report prints what stands in its world.
  report-lines : (world : World) → lines_of_transitions (transitions_of setup world Event.report) ≡ report_of setup world
  unfolding transitions_of transition_of begun
  report-lines world = append-nil (report_of setup world)

  module _ (world : World) (requests : List Ordered) (reached : Acts setup (opening setup) world) (of : IsOfRequests requests world.order) where
    abbrev items : List Line
    items = item_lines 0 (readings setup world) ++ Line.end ∷ []

    items-serial : ShowSerialValues setup world items
    unfolding report_of
    items-serial n cases there assignment fits =
        let ordered = Line.order (txns_in_order world.order) in
        let done = Line.committed (committed_in world) in
        let left = Line.open_ones (txns_in_order (filter (is_open world) world.order)) in
        let within : Contains (report_of setup world) (Line.item n cases) =
        Contains-behind ordered (done ∷ (left ∷ items)) (Line.item n cases)
        (Contains-behind done (left ∷ items) (Line.item n cases) (Contains-behind left items (Line.item n cases) there)) in
        report-serial setup world world (λ m. refl) (λ m. refl) (all-agree setup world reached) n cases within assignment fits

    report-right : All (IsRight setup.catalog) (report_in requests Event.report (report_of setup world))
    unfolding report_of
    report-right =
        All-cons (IsRight setup.catalog) (told_in world requests items) []
        (world-right setup world requests items of (committed-fit setup world (always-settled setup world reached)) items-serial) (All-nil (IsRight setup.catalog))

    event-right : (event : Event) → All (IsRight setup.catalog) (report_in requests event (lines_of_transitions (transitions_of setup world event)))
    event-right Event.report = subst (λ (lines : List Line). All (IsRight setup.catalog) (report_in requests Event.report lines)) (sym (report-lines world)) report-right
    event-right event = All-nil (IsRight setup.catalog)

  module _ (all : List Transition) (known : AreKnown setup (opening setup) all) (of : OrdersAreOfRequests (opening setup) all) where
    parts-right : (events : List Event) (world : World) (requests : List Ordered) (done : List Transition) → world_after (opening setup) done ≡ world → begun_in done ≡ requests
        → all ≡ done ++ run setup world events → All (IsRight setup.catalog) (reports_after requests (parts_from setup world events))
    parts-right [] world requests done here so_far split = All-nil (IsRight setup.catalog)
    parts-right (event ∷ events) world requests done here so_far split =
        let now = transitions_of setup world event in
        let later = run setup (world_after world now) events in
        let lines = lines_of_transitions now in
        let reached : Acts setup (opening setup) world =
        subst (Acts setup (opening setup)) here (known-acts setup (opening setup) done (now ++ later) (subst (AreKnown setup (opening setup)) split known)) in
        let right : IsOfRequests requests world.order =
        subst (λ (w : World). IsOfRequests requests w.order) here
        (subst (λ (begun : List Ordered). IsOfRequests begun (world_after (opening setup) done).order) so_far (of done (now ++ later) split)) in
        All-append (IsRight setup.catalog) (report_in requests event lines) (reports_after (requests ++ begun_by event lines) (parts_from setup (world_after world now) events))
        (event-right world requests reached right event)
        (parts-right events (world_after world now) (requests ++ begun_by event lines) (done ++ now)
        (world_after-append (opening setup) done now ∙ ap (λ (w : World). world_after w now) here)
        (begun-append done now ∙ ap₂ (λ (a b : List Ordered). a ++ b) so_far (sym (event-begun world event)))
        (split ∙ sym (append_assoc done now later)))

  pub run-right : (events : List Event) → All (IsWellFormed setup.catalog) events → AreRight (run_trace setup events)
  unfolding reports
  run-right events well =
      let all = run setup (opening setup) events in
      let known = run-known setup events well in
      parts-right all known (all-of-requests setup all known (run-goes setup (opening setup) all (run-transitions setup (opening setup) events))) events (opening setup) [] [] refl refl refl
