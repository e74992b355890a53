-- The events of a merge are well formed.
use Rattle.std.proofs.Common.{ℕ, ◌<◌, Bool, true, false, ◌==◌, if◌then◌else◌, List, [], ◌∷◌, All, length, sym, refl, subst, arith}
use Rattle.std.specs.Prelude.{flat_map}
use Rattle.std.proofs.lemmas.List.Elements.{All-nil, All-cons, All-head, All-tail, All-append}
use Rattle.pv_base.specs.Catalog.{Declared}
use Rattle.pv_base.specs.declared.mode.Mode.TheVariants.{Lost}
use Rattle.pv_law_histories.specs.Fitting.{FitTogether, CanBeDone, CanAllBeDone}
use Rattle.pv_law_histories.specs.History.{Intake, request, parcel, tick, Came, done, fault, down, Stamped}
use Rattle.pv_law_histories.specs.Merge.{Moment, IsMerge, entries_of, event_of, with_fault, events_at, events_of_merge}
use Rattle.pv_law_histories.proofs.MomentLemmas.{entries-same}
use Rattle.pv_model.specs.Events as events
use Rattle.pv_model.specs.Events.{Event}
use Rattle.pv_protocol.specs.State.{Setup}
use Rattle.pv_protocol.specs.WellFormed.{IsWellFormed}

-- ## What holds of the entries of each site holds of all moments
if-rest : (P : Stamped → Type 0) (test : Bool) (entry : Stamped) (entries : List Stamped) → All P (if test then entry ∷ entries else entries) → All P entries
if-rest P true entry entries all = All-tail P entry entries all
if-rest P false entry entries all = all

pub of-entries : (P : ℕ → Stamped → Type 0) (count : ℕ) (moments : List Moment) → All (λ moment. moment.site < count) moments
    → ((n : ℕ) → n < count → All (P n) (entries_of n moments)) → All (λ moment. P moment.site moment.entry) moments
of-entries P count [] sites every = All-nil (λ (moment : Moment). P moment.site moment.entry)
of-entries P count (moment ∷ moments) sites every =
    let within = All-head (λ (m : Moment). m.site < count) moment moments sites in
    All-cons (λ (m : Moment). P m.site m.entry) moment moments
    (All-head (P moment.site) moment.entry (entries_of moment.site moments) (subst (All (P moment.site)) (entries-same moment.site moment moments refl) (every moment.site within)))
    (of-entries P count moments (All-tail (λ (m : Moment). m.site < count) moment moments sites)
    (λ n inside. if-rest (P n) (moment.site == n) moment.entry (entries_of n moments) (every n inside)))

-- ## Each event of a moment is well formed
module _ (catalog : Declared) (all : List Moment) where
  event-well : (n : ℕ) (intake : Intake) → n < catalog.sites → CanBeDone catalog intake → IsWellFormed catalog (event_of all n intake)
  event-well n (request client asked) within can = (within, can)
  event-well n (parcel from stamp place message) within can = can
  event-well n tick within can = within

  with_fault-well : (n : ℕ) (came : Came) (event : Event) → n < catalog.sites → IsWellFormed catalog event → All (IsWellFormed catalog) (with_fault n came event)
  with_fault-well n (done notes) event within well = All-cons (IsWellFormed catalog) event [] well (All-nil (IsWellFormed catalog))
  with_fault-well n fault event within well =
      All-cons (IsWellFormed catalog) (events.arm n 1 Lost false) (event ∷ []) (within, omega arith)
      (All-cons (IsWellFormed catalog) event [] well (All-nil (IsWellFormed catalog)))
  with_fault-well n down event within well = All-cons (IsWellFormed catalog) event [] well (All-nil (IsWellFormed catalog))

  moments-well : (moments : List Moment) → All (λ moment. moment.site < catalog.sites) moments → All (λ moment. CanBeDone catalog moment.entry.intake) moments
      → All (IsWellFormed catalog) (flat_map (events_at all) moments)
  moments-well [] sites can = All-nil (IsWellFormed catalog)
  moments-well (moment ∷ moments) sites can =
      let P = λ (m : Moment). m.site < catalog.sites in
      let Q = λ (m : Moment). CanBeDone catalog m.entry.intake in
      let within = All-head P moment moments sites in
      All-append (IsWellFormed catalog) (events_at all moment) (flat_map (events_at all) moments)
      (with_fault-well moment.site moment.entry.came (event_of all moment.site moment.entry.intake) within
      (event-well moment.site moment.entry.intake within (All-head Q moment moments can)))
      (moments-well moments (All-tail P moment moments sites) (All-tail Q moment moments can))

pub merge-well : (setup : Setup) (histories : List (List Stamped)) (moments : List Moment) → FitTogether setup histories → IsMerge histories moments
    → CanAllBeDone setup.catalog histories → All (IsWellFormed setup.catalog) (events_of_merge moments)
merge-well setup histories moments fit merge can =
    moments-well setup.catalog moments moments
    (subst (λ (count : ℕ). All (λ moment. moment.site < count) moments) fit.count merge.sites)
    (of-entries (λ (n : ℕ) (entry : Stamped). CanBeDone setup.catalog entry.intake) (length histories) moments merge.sites
    (λ n within. subst (All (λ entry. CanBeDone setup.catalog entry.intake)) (sym (merge.entries n within)) (can n within)))
