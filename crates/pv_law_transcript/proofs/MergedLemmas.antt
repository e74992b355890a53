-- The lines of a schedule may say the events of a merge, moment by moment.
use Rattle.std.proofs.Common.{◌≡◌, ℕ, ◌<◌, ◌==◌, Bool, true, false, if◌then◌else◌, List, [], ◌∷◌, ◌++◌, All, length, flat_map, eq-eqb, refl, sym, ap, subst, arith}
use Rattle.std.proofs.lemmas.List.Elements.{All-cons, All-head, All-nil, All-tail}
use Rattle.pv_base.specs.Catalog.{Declared}
use Rattle.pv_base.specs.declared.mode.Mode.TheVariants.{Lost}
use Rattle.pv_law_histories.proofs.WellFormedLemmas.{of-entries}
use Rattle.pv_law_histories.specs.Fitting.{history_of}
use Rattle.pv_law_histories.specs.History.{Intake, request, parcel, tick, Came, done, fault, down, Stamped}
use Rattle.pv_law_histories.specs.Merge.{Moment, IsMerge, number_of, event_of, with_fault, events_at, events_of_merge}
use Rattle.pv_law_passing.specs.Asking.{asked_by, with_asked}
use Rattle.pv_model.specs.Events as events
use Rattle.pv_model.specs.Events.{Event}
use Rattle.pv_model.specs.LiveScript.{Request}
use Rattle.pv_transcript.specs.Transcript.{with_reports}
use Rattle.pv_law_transcript.specs.Merged.{HasWrittenNumber, IsWrittenIntake}
use Rattle.pv_law_transcript.specs.Written.{AreWritten, IsWrittenEvent, IsWrittenRequest, of_arm, of_deliver, of_report, of_submit, of_tick, of_total}

module _ {X : Type 0} (P : X → Type 0) where
  pub all-front : (xs ys : List X) → All P (xs ++ ys) → All P xs
  all-front [] ys all = All-nil P
  all-front (x ∷ xs) ys all = All-cons P x xs (All-head P x (xs ++ ys) all) (all-front xs ys (All-tail P x (xs ++ ys) all))

  pub all-back : (xs ys : List X) → All P (xs ++ ys) → All P ys
  all-back [] ys all = all
  all-back (x ∷ xs) ys all = all-back xs ys (All-tail P x (xs ++ ys) all)

-- ## What clients asked for
abbrev OfRequest : Declared → Request → Type 0
OfRequest catalog asked = IsWrittenRequest catalog asked.query asked.text asked.program

first-written : (catalog : Declared) (intake : Intake) (later : ℕ → List Request) → ((client : ℕ) → All (OfRequest catalog) (with_asked client intake (later client)))
    → IsWrittenIntake catalog intake
first-written catalog (request client asked) later every =
    let here : (if client == client then asked ∷ later client else later client) ≡ asked ∷ later client =
    ap (λ (same : Bool). if same then asked ∷ later client else later client) (eq-eqb client client refl) in
    All-head (OfRequest catalog) asked (later client) (subst (All (OfRequest catalog)) here (every client))
first-written catalog (parcel from stamp place message) later every = tt
first-written catalog tick later every = tt

if-rest : (catalog : Declared) (test : Bool) (asked : Request) (later : List Request) → All (OfRequest catalog) (if test then asked ∷ later else later)
    → All (OfRequest catalog) later
if-rest catalog true asked later all = All-tail (OfRequest catalog) asked later all
if-rest catalog false asked later all = all

rest-written : (catalog : Declared) (client : ℕ) (intake : Intake) (later : List Request) → All (OfRequest catalog) (with_asked client intake later)
    → All (OfRequest catalog) later
rest-written catalog client (request asker asked) later all = if-rest catalog (asker == client) asked later all
rest-written catalog client (parcel from stamp place message) later all = all
rest-written catalog client tick later all = all

pub asked-written : (catalog : Declared) (history : List Stamped) → ((client : ℕ) → All (OfRequest catalog) (asked_by client history))
    → All (λ entry. IsWrittenIntake catalog entry.intake) history
asked-written catalog [] every = All-nil (λ (entry : Stamped). IsWrittenIntake catalog entry.intake)
asked-written catalog (entry ∷ entries) every =
    All-cons (λ (e : Stamped). IsWrittenIntake catalog e.intake) entry entries
    (first-written catalog entry.intake (λ client. asked_by client entries) every)
    (asked-written catalog entries (λ client. rest-written catalog client entry.intake (asked_by client entries) (every client)))

-- ## The events
module _ (catalog : Declared) where
  written-append : (es more : List Event) → AreWritten catalog es → AreWritten catalog more → AreWritten catalog (es ++ more)
  written-append [] more are rest = rest
  written-append (e ∷ es) more are rest = (are.0, written-append es more are.1 rest)

  fault-written : (n : ℕ) (came : Came) (e : Event) → n < catalog.sites → (HasWrittenNumber e → IsWrittenEvent catalog e) → All HasWrittenNumber (with_fault n came e)
      → AreWritten catalog (with_fault n came e)
  fault-written n (done notes) e within is small = (is (All-head HasWrittenNumber e [] small), tt)
  fault-written n fault e within is small =
      (of_arm n 1 Lost false within (omega arith) (omega arith), (is (All-head HasWrittenNumber e [] (All-tail HasWrittenNumber (events.arm n 1 Lost false) (e ∷ []) small)), tt))
  fault-written n down e within is small = (is (All-head HasWrittenNumber e [] small), tt)

  module _ (all : List Moment) where
    event-written : (n : ℕ) (intake : Intake) → n < catalog.sites → IsWrittenIntake catalog intake → HasWrittenNumber (event_of all n intake)
        → IsWrittenEvent catalog (event_of all n intake)
    event-written n (request client asked) within is small = of_submit n asked.query asked.text asked.program within is
    event-written n (parcel from stamp place message) within is small = of_deliver (number_of all from stamp place) small
    event-written n tick within is small = of_tick n within

    moments-written : (moments : List Moment) → All (λ moment. moment.site < catalog.sites) moments → All (λ moment. IsWrittenIntake catalog moment.entry.intake) moments
        → All HasWrittenNumber (flat_map (events_at all) moments) → AreWritten catalog (flat_map (events_at all) moments)
    moments-written [] sites are small = tt
    moments-written (moment ∷ moments) sites are small =
        let P = λ (m : Moment). m.site < catalog.sites in
        let Q = λ (m : Moment). IsWrittenIntake catalog m.entry.intake in
        let within = All-head P moment moments sites in
        written-append (events_at all moment) (flat_map (events_at all) moments)
        (fault-written moment.site moment.entry.came (event_of all moment.site moment.entry.intake) within
        (event-written moment.site moment.entry.intake within (All-head Q moment moments are))
        (all-front HasWrittenNumber (events_at all moment) (flat_map (events_at all) moments) small))
        (moments-written moments (All-tail P moment moments sites) (All-tail Q moment moments are)
        (all-back HasWrittenNumber (events_at all moment) (flat_map (events_at all) moments) small))

pub merge-written : (catalog : Declared) (histories : List (List Stamped)) (moments : List Moment) → length histories ≡ catalog.sites → IsMerge histories moments
    → ((n : ℕ) → n < length histories → All (λ entry. IsWrittenIntake catalog entry.intake) (history_of histories n))
    → All HasWrittenNumber (events_of_merge moments) → AreWritten catalog (with_reports (events_of_merge moments))
merge-written catalog histories moments count merge are small =
    written-append catalog (events_of_merge moments) (events.report ∷ (events.total ∷ []))
    (moments-written catalog moments moments
    (subst (λ (sites : ℕ). All (λ moment. moment.site < sites) moments) count merge.sites)
    (of-entries (λ (n : ℕ) (entry : Stamped). IsWrittenIntake catalog entry.intake) (length histories) moments merge.sites
    (λ n within. subst (All (λ entry. IsWrittenIntake catalog entry.intake)) (sym (merge.entries n within)) (are n within)))
    small)
    (of_report, (of_total, tt))
